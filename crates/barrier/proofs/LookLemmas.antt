-- A look at a flag: the loads of its line are one try at it.
use Rattle.std.proofs.Common.{◌≡◌, ◌≢◌, ℕ, ◌<◌, Bool, false, not, List, Option, None, Some, slice_index, refl, ◌∙◌, ap}
use Rattle.std.specs.List.{list_any}
use Rattle.scc_base.specs.Places.{WordAt, LineAt, line_of_word}
use Rattle.scc_base.specs.Setups.{SetupView}
use Rattle.scc_base.specs.declared.events.Spot.TheVariants.{Flag}
use Rattle.scc_proto.specs.Drafts.{is_draft}
use Rattle.scc_proto.proofs.Tests.{eqb_other}
use Rattle.put_get.specs.Accesses.{loads_of}
use Rattle.sync_flags.specs.Tries.{Aim, AtWord, Tried, Failed, Fruitful}
use Rattle.sync_flags.proofs.RowLemmas.{word_tried}
use Rattle.barrier.proofs.StageLemmas.{same_by}

-- loads are no drafts
pub loads_no_draft : (s : SetupView) (line : LineAt) (words : List ℕ) → list_any (is_draft s) (loads_of line words) ≡ false
loads_no_draft s line words = refl

pub failed_look : {aim : Option Aim} (p : WordAt) (value : ℕ) (words : List ℕ) → p.word < 4 → slice_index words p.word ≢ value → aim ≡ Some (AtWord p value)
    → Tried aim (loads_of (line_of_word p) words) (Some (Flag p 0))
failed_look p value words low other aims =
    let one = word_tried p value words low in
    Failed (AtWord p value) aims one.0 (one.1 ∙ ap (λ (b : Bool). not b) (eqb_other (slice_index words p.word) value other)) refl

pub fruitful_look : {aim : Option Aim} (p : WordAt) (value : ℕ) (words : List ℕ) → p.word < 4 → slice_index words p.word ≡ value → aim ≡ Some (AtWord p value)
    → Tried aim (loads_of (line_of_word p) words) None
fruitful_look p value words low found aims =
    let one = word_tried p value words low in
    Fruitful (AtWord p value) aims one.0 (one.1 ∙ ap (λ (b : Bool). not b) (same_by (slice_index words p.word) value found)) refl
