-- What the script for one rank and that for more have in common: the first names of registers, and lines as words.
use Rattle.std.proofs.Common.{ℕ, ◌≤◌, List, [], ◌∷◌, codes, decimal, refl, arith}
use Rattle.script_gen.proofs.Lines.{AreWords, decimal_word}

-- the names of the registers, as they come
abbrev pub names_1 : List (List ℕ)
names_1 = codes "h" ∷ []

abbrev pub names_2 : List (List ℕ)
names_2 = codes "h" ∷ codes "me" ∷ []

pub even_are : AreWords (codes "even" ∷ [])
even_are = ((refl, refl), tt)

pub odd_are : AreWords (codes "odd" ∷ [])
odd_are = ((refl, refl), tt)

pub fill_are : (s : ℕ) → s ≤ 65535 → AreWords (codes "fill" ∷ codes "h" ∷ decimal s ∷ decimal s ∷ [])
fill_are s small = ((refl, refl), ((refl, refl), (decimal_word s small, (decimal_word s small, tt))))

pub rank_are : AreWords (codes "rank" ∷ codes "me" ∷ codes "long" ∷ [])
rank_are = ((refl, refl), ((refl, refl), ((refl, refl), tt)))

pub repeat_are : (t : ℕ) → t ≤ 10 → AreWords (codes "repeat" ∷ decimal t ∷ [])
repeat_are t few = ((refl, refl), (decimal_word t (omega (arith, few)), tt))

pub sum_are : AreWords (codes "allreduce" ∷ codes "0" ∷ codes "sum" ∷ codes "long" ∷ codes "me" ∷ codes "me" ∷ [])
sum_are = ((refl, refl), ((refl, refl), ((refl, refl), ((refl, refl), ((refl, refl), ((refl, refl), tt))))))

pub end_are : AreWords (codes "end" ∷ [])
end_are = ((refl, refl), tt)

pub printme_are : AreWords (codes "print" ∷ codes "long" ∷ codes "me" ∷ [])
printme_are = ((refl, refl), ((refl, refl), ((refl, refl), tt)))
