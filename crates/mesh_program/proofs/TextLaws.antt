-- The lines of links that carry the same are the same.
use Rattle.std.proofs.Common.{◌≡◌, ℕ, ◌<◌, List, [], ◌∷◌, ◌++◌, get_or, length, map, refl, sym, ap, ◌∙◌, subst, zero-add, Result}
use Rattle.std.proofs.lemmas.List.{append-nil}
use Rattle.std.proofs.lemmas.List.FromFn.{get_or-range_with_len, length-range_with_len}
use Rattle.std.specs.Prelude.{◌==◌, if◌then◌else◌}
use Rattle.rcce_io.specs.declared.writing.WriteFault.{WriteFault}
use Rattle.rcce_io.specs.Sending.{CutShort, Sends, SinkView, joined_texts, with_text}
use Rattle.rcce_io.proofs.SendingLemmas.{cut_after, cut_then, sends_after}
use Rattle.mesh_load.specs.Mesh.{Link, links_at}
use Rattle.mesh_program.specs.Texts.{link_line, link_text, mesh_text, tile_numbers, tile_text}

joined_same : {X : Type 0} (f g : X → List ℕ) → ((x : X) → f x ≡ g x) → (xs : List X) → joined_texts (map f xs) ≡ joined_texts (map g xs)
joined_same f g same [] = refl
joined_same f g same (x ∷ xs) =
    ap (λ (t : List ℕ). t ++ joined_texts (map f xs)) (same x) ∙ ap (λ (t : List ℕ). g x ++ t) (joined_same f g same xs)

link_same : (on other : Link → ℕ) → ((link : Link) → on link ≡ other link) → (link : Link) → link_text on link ≡ link_text other link
link_same on other same link = ap (λ (n : ℕ). if n == 0 then [] else link_line link n) (same link)

tile_same : (on other : Link → ℕ) → ((link : Link) → on link ≡ other link) → (number : ℕ) → tile_text on number ≡ tile_text other number
tile_same on other same number = joined_same (link_text on) (link_text other) (link_same on other same) (links_at number)

pub mesh_same : (on other : Link → ℕ) → ((link : Link) → on link ≡ other link) → mesh_text on ≡ mesh_text other
mesh_same on other same = joined_same (tile_text on) (tile_text other) (tile_same on other same) tile_numbers

-- there are 24 tiles, in their order
pub tile_count : length tile_numbers ≡ 24
unfolding tile_numbers
tile_count = length-range_with_len 0 24

pub tile_at : (k d : ℕ) → k < 24 → get_or tile_numbers k d ≡ k
unfolding tile_numbers
tile_at k d low = get_or-range_with_len 0 24 k d low ∙ zero-add k

-- four texts, one behind another, of which each may be cut short
module _ (s t u v w : SinkView) (a b c d : List ℕ) where
  pub cut_first : CutShort a s t → CutShort (a ++ (b ++ (c ++ (d ++ [])))) s t
  cut_first cut = cut_then s t a (b ++ (c ++ (d ++ []))) cut

  pub cut_second : t ≡ with_text a s → CutShort b t u → CutShort (a ++ (b ++ (c ++ (d ++ [])))) s u
  cut_second one cut = cut_after s t u a (b ++ (c ++ (d ++ []))) one (cut_then t u b (c ++ (d ++ [])) cut)

  pub cut_third : t ≡ with_text a s → u ≡ with_text b t → CutShort c u v → CutShort (a ++ (b ++ (c ++ (d ++ [])))) s v
  cut_third one two cut =
      cut_after s t v a (b ++ (c ++ (d ++ []))) one (cut_after t u v b (c ++ (d ++ [])) two (cut_then u v c (d ++ []) cut))

  pub four_sent : (r : Result (Unit {0}) WriteFault) → t ≡ with_text a s → u ≡ with_text b t → v ≡ with_text c u → Sends d v w r → Sends (a ++ (b ++ (c ++ (d ++ [])))) s w r
  four_sent r one two three last =
      sends_after s t w a (b ++ (c ++ (d ++ []))) r one
      (sends_after t u w b (c ++ (d ++ [])) r two
      (sends_after u v w c (d ++ []) r three (subst (λ (text : List ℕ). Sends text v w r) (sym (append-nil d)) last)))
