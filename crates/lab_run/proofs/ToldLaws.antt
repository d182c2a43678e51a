-- What was printed, compared with the accesses that the chip has made.
use Rattle.std.proofs.Common.{◌≡◌, ℕ, Bool, true, false, List, [], ◌∷◌, ◌++◌, map, Option, None, Some, refl, sym, ◌∙◌, ap}
use Rattle.std.proofs.lemmas.List.{append-nil, append_assoc}
use Rattle.scc_base.specs.Places.{LineAt}
use Rattle.scc_base.specs.declared.events.Event.{Event}
use Rattle.scc_proto.specs.Words.{RankEvent}
use Rattle.scc_proto.specs.Ports.{Did}
use Rattle.line_cache.specs.declared.cache.Entry.{Entry}
use Rattle.write_combine.specs.declared.combiner.Out.{Out}
use Rattle.put_get.specs.Accesses.{stores_of, stores_of_line}
use Rattle.chip_memory.specs.Chips.{TurnChipView, all_events, of_rank_all, turn_sight, with_turn}
use Rattle.lab_plain.specs.declared.said.Said.{Said}
use Rattle.lab_plain.specs.declared.said.Said.TheVariants.{Begins, Caches}
use Rattle.lab_plain.specs.Scenes.{say_buffer, say_left, say_lines, say_stores}
use Rattle.lab_run.specs.Accesses.{accesses_of, accesses_told}
use Rattle.lab_run.specs.Turns.{IsTold}
use Rattle.lab_run.proofs.HeapEvents.{all_did}

pub accesses-append : (a b : List Said) → accesses_of (a ++ b) ≡ accesses_of a ++ accesses_of b
accesses-append [] b = refl
accesses-append (s ∷ a) b = ap (λ (l : List RankEvent). accesses_told s ++ l) (accesses-append a b) ∙ sym (append_assoc (accesses_told s) (accesses_of a) (accesses_of b))

-- two batches of events and prints, one after the other
pub told_both : (a b c : TurnChipView) (x y z : List Said) → IsTold a x b y → IsTold b y c z → IsTold a x c z
told_both a b c x y z first second = record {
  more = first.more ++ second.more;
  prints = second.prints ∙ ap (λ (l : List Said). l ++ second.more) first.prints ∙ append_assoc x first.more second.more;
  makes = second.makes ∙ ap (λ (l : List RankEvent). l ++ accesses_of second.more) first.makes ∙ append_assoc (all_events a) (accesses_of first.more) (accesses_of second.more)
      ∙ ap (λ (l : List RankEvent). all_events a ++ l) (sym (accesses-append first.more second.more));
}

-- more was printed, none of it an access
pub told_more : (chip : TurnChipView) (said more end : List Said) → end ≡ said ++ more → accesses_of more ≡ [] → IsTold chip said chip end
told_more chip said more end prints none = record {
  more = more;
  prints = prints;
  makes = sym (ap (λ (l : List RankEvent). all_events chip ++ l) none ∙ append-nil (all_events chip));
}

pub told_none : (chip : TurnChipView) (said : List Said) → IsTold chip said chip said
told_none chip said = told_more chip said [] said (sym (append-nil said)) refl

-- the port's accesses were printed
pub told_by : (s t : TurnChipView) (events : List Event) (said more end : List Said) → Did (turn_sight s) events (turn_sight t) → end ≡ said ++ more → accesses_of more ≡ of_rank_all s.rank events → IsTold s said t end
told_by s t events said more end did prints same = record {
  more = more;
  prints = prints;
  makes = all_did s t events did ∙ ap (λ (l : List RankEvent). all_events s ++ l) (sym same);
}

-- all accesses so far were printed, and so are the new ones
pub all_told : (s t : TurnChipView) (said told : List Said) → IsTold s said t told → all_events s ≡ accesses_of said → all_events t ≡ accesses_of told
all_told s t said told tells before =
    tells.makes ∙ ap (λ (l : List RankEvent). l ++ accesses_of tells.more) before ∙ sym (accesses-append said tells.more) ∙ sym (ap accesses_of tells.prints)

-- a step begins
pub begun_told : (chip new : TurnChipView) (k line : ℕ) (text : List ℕ) (said told : List Said) → new ≡ with_turn chip k → told ≡ said ++ Begins line text ∷ [] → all_events chip ≡ accesses_of said
    → all_events new ≡ accesses_of told
begun_told chip new k line text said told is prints before =
    ap all_events is ∙ append-nil (all_events chip) ∙ before ∙ sym (ap accesses_of prints ∙ accesses-append said (Begins line text ∷ []) ∙ append-nil (accesses_of said))

-- ---- what is printed of each kind of access

pub stores_told : (me : ℕ) (out : Option Out) → accesses_of (say_stores me out) ≡ of_rank_all me (stores_of out)
stores_told me None = refl
stores_told me (Some o) = append-nil (of_rank_all me (stores_of_line o))

pub left_told : (evict : Option LineAt) (left : Bool) → accesses_of (say_left evict left) ≡ []
left_told None left = refl
left_told (Some line) true = refl
left_told (Some line) false = refl

caches_told : (me : ℕ) (es : List Entry) → accesses_of (map (λ (x : Entry). Caches me x.line x.words) es) ≡ []
caches_told me [] = refl
caches_told me (e ∷ es) = caches_told me es

lines_told : (me : ℕ) (es : List Entry) → accesses_of (say_lines me es) ≡ []
lines_told me [] = refl
lines_told me (e ∷ es) = caches_told me es

buffer_told : (me : ℕ) (out : Option Out) → accesses_of (say_buffer me out) ≡ []
buffer_told me None = refl
buffer_told me (Some o) = refl

pub print_told : (me : ℕ) (es : List Entry) (out : Option Out) → accesses_of (say_lines me es ++ say_buffer me out) ≡ []
print_told me es out = accesses-append (say_lines me es) (say_buffer me out) ∙ (λ i. lines_told me es i ++ buffer_told me out i)
