-- One read of a block: what stands at the front of the buffer goes behind the bytes read so far.
use Rattle.std.proofs.Common.{◌≡◌, ℕ, ◌<◌, ◌≤◌, ◌∙◌, List, ◌++◌, length, take, min, sym, ap, arith, Ok, true, Some, None, Option, option_map}
use Rattle.std.proofs.lemmas.List.{append_assoc, length-append, length-take, take-append-le}
use Rattle.rcce_io.specs.Files.{FilesView, with_rest}
use Rattle.rcce_io.specs.Reading.{ReadsBlock, whole_of}

whole-moved : (bytes front : List ℕ) (rest : Option (List ℕ)) → whole_of (bytes ++ front) rest ≡ whole_of bytes (option_map (λ more. front ++ more) rest)
whole-moved bytes front None = ap (λ (o : Option (List ℕ)). o) (ap (λ (l : List ℕ). None) (append_assoc bytes front front))
whole-moved bytes front (Some rest) = ap Some (append_assoc bytes front rest)

pub block_read : (before after : FilesView) (bytes more buf back block : List ℕ) (n room most : ℕ) → after ≡ with_rest after.rest before → 0 < n → n ≤ length buf →
    before.rest ≡ option_map (λ rest. take n buf ++ rest) after.rest → more ≡ bytes ++ take n (buf ++ back) → length buf ≡ length (take most block) →
    most ≡ min room 4096 → ReadsBlock bytes more room before after (Ok true)
block_read before after bytes more buf back block n room most same some within moved is size low =
    let front = take-append-le n buf back within in
    let grown : more ≡ bytes ++ take n buf = is ∙ ap (λ t. bytes ++ t) front in
    let longer = ap length grown ∙ length-append bytes (take n buf) in
    let count = length-take n buf in
    let room_left = length-take most block in (
      same,
      omega (arith, longer, count, within, some),
      omega (arith, longer, count, within, size, room_left, low),
      ap (λ l. whole_of l after.rest) grown ∙ whole-moved bytes (take n buf) after.rest ∙ ap (λ o. whole_of bytes o) (sym moved),
    )

-- a slice up to a place within it is as long as that
pub front_size : (n : ℕ) (xs : List ℕ) → n ≤ length xs → n ≡ length (take n xs)
front_size n xs within = omega (arith, length-take n xs, within)

pub fits_front : (n : ℕ) (a b : List ℕ) → n ≤ length a → n ≤ length (a ++ b)
fits_front n a b within = omega (arith, length-append a b, within)

pub some_front : (n : ℕ) (xs : List ℕ) → 0 < n → n ≤ length xs → 0 < length (take n xs)
some_front n xs some within = omega (arith, length-take n xs, some, within)

pub below_most : (n room most : ℕ) → n ≡ min room most → n ≤ most
below_most n room most is = omega (arith, is)

pub some_room : (n room : ℕ) → n ≡ min room 4096 → 0 < room → 0 < n
some_room n room is some = omega (arith, is, some)
