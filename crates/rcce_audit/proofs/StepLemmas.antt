-- What makes a step of legality, and what forbids one, by the places of the lists.
use Rattle.std.proofs.Common.{◌≡◌, ◌≢◌, ℕ, ◌+◌, ◌*◌, ◌<◌, ◌≤◌, Bool, true, false, cond, ◌||◌, if◌then◌else◌, List, [], ◌∷◌, length, get_or, set, drop, Option, Some, None, option_and_then, ⊎_elim, refl, sym, ◌∙◌, ap, subst, arith}
use Rattle.std.specs.Prelude.{◌==◌, All, slice_get, slice_index, slice_index_or}
use Rattle.std.proofs.lemmas.Bool.{cases_eq, cases_lt, eqb-true, eqb-false, or_cases, or_parts, ne_eqb, true≢false}
use Rattle.std.proofs.lemmas.List.{get_or-set_other, get_or-set_same}
use Rattle.std.proofs.lemmas.Option.{slice_get_within, get_or_from_slice_get}
use Rattle.scc_base.specs.Calls.{DataCall, Send, Recv, Post, Bar}
use Rattle.scc_base.specs.Changes.{Change, only, both}
use Rattle.scc_base.specs.Groups.{place_in}
use Rattle.scc_base.specs.Setups.{SetupView, setup_key}
use Rattle.scc_proto.specs.Legality.{Outgoing, Standing, Posting, Taking, Pairing, Meeting, in_group, call_at, Makes, OwnStep}
use Rattle.scc_proto.proofs.Legality.StepLaws.{itself, own_step, owner_of-own_step}
use Rattle.rcce_audit.specs.declared.progress.Progress.{Progress}
use Rattle.rcce_audit.specs.Logs.{calls_at_rank}
use Rattle.rcce_audit.specs.Standings.{AreLists, Tries, TriesFirst, IsQuiet, outgoing_at, outgoing_of, calls_left, slot_of_lists, standing_of, Sleeps, partner_of, Advances, Acts, Meets, Leads, VisitDoes, SweepDoes, count_left}
use Rattle.rcce_audit.proofs.StandingLemmas.{drop-at, drop-none, left_same, no_other_step, no_step, quiet_after, leads_none, leads_step, own_fewer}

-- the call at a place, by the calls from there on
pub get-drop : {X : Type 0} (calls : List X) (n : ℕ) (c : X) (rest : List X) → drop n calls ≡ c ∷ rest → slice_get calls n ≡ Some c
get-drop {X} calls n c rest is = found (slice_get calls n) refl
  where
    found : (o : Option X) → slice_get calls n ≡ o → o ≡ Some c
    found None e = let none : drop n calls ≡ [] = drop-none calls n e in absurd cc
    found (Some x) e = let some : drop n calls ≡ x ∷ drop (n + 1) calls = drop-at calls n x e in cc

module _ (s : SetupView) (lists : List (List DataCall)) where
  -- one caller
  alone_calls : (a : ℕ) (c : DataCall) (old new : Progress) → calls_left lists old.next a ≡ c ∷ calls_left lists new.next a → ((j : ℕ) → j ≢ a → slice_index new.next j ≡ slice_index old.next j)
      → Change (only a) (λ k before after. before ≡ c ∷ after) (calls_left lists old.next) (calls_left lists new.next)
  alone_calls a c old new is others = record {
    changed = λ k within. subst (λ (x : ℕ). calls_left lists old.next x ≡ c ∷ calls_left lists new.next x) (sym (eqb-true k a within)) is;
    others = λ k without. left_same lists k old.next new.next (others k (eqb-false k a without));
  }

  -- a slot, by the place of its post
  abbrev slot_by : ℕ → Option ℕ → Option Outgoing
  slot_by k place = option_and_then (outgoing_at (calls_at_rank lists k)) place

  -- one slot
  alone_slot : (a : ℕ) (before after : Option Outgoing) (old new : Progress) → slot_of_lists lists old.posted a ≡ before → slot_of_lists lists new.posted a ≡ after
      → ((j : ℕ) → j ≢ a → slice_index_or new.posted j None ≡ slice_index_or old.posted j None)
      → Change (only a) (λ k was is. (was ≡ before) × (is ≡ after)) (slot_of_lists lists old.posted) (slot_of_lists lists new.posted)
  alone_slot a before after old new was is others = record {
    changed = λ k within. subst (λ (x : ℕ). (slot_of_lists lists old.posted x ≡ before) × (slot_of_lists lists new.posted x ≡ after)) (sym (eqb-true k a within)) (was, is);
    others = λ k without. ap (slot_by k) (sym (others k (eqb-false k a without)));
  }

  awake_same : (p q : Progress) (j : ℕ) → q.awake ≡ set p.awake j true → j < length p.awake → Sleeps q j → ⊥
  awake_same p q j is below asleep =
      true≢false (sym (ap (λ (l : List Bool). get_or l j false) is ∙ get_or-set_same p.awake j true false below) ∙ asleep)

  awake_kept : (p q : Progress) (j : ℕ) → q.awake ≡ set p.awake j true → j < length p.awake → (b : ℕ) → Sleeps q b → Sleeps p b
  awake_kept p q j is below b asleep =
      ⊎_elim
      (λ (at : b ≡ j). absurd (awake_same p q j is below (subst (Sleeps q) at asleep)))
      (λ (other : b ≡ j → ⊥). sym (ap (λ (l : List Bool). get_or l b false) is ∙ get_or-set_other p.awake j b true false other) ∙ asleep)
      (cases_eq b j)

  -- a rank posts
  pub post_acts : (a : ℕ) (m : Outgoing) (old mid new : Progress) → slice_get (calls_at_rank lists a) (slice_index old.next a) ≡ Some (Post m.to m.head m.bytes) → slot_of_lists lists old.posted a ≡ None
      → mid.next ≡ old.next → mid.posted ≡ set old.posted a (Some (slice_index old.next a)) → mid.awake ≡ set old.awake m.to true → a < length old.posted → m.to < length old.awake
      → Advances s lists a mid new → Acts s lists (Posting a m) old new
  post_acts a m old mid new front empty next noted woken below to_below adv = record {
    makes = record {
      proper = tt;
      calls = alone_calls a (Post m.to m.head m.bytes) old new
          (drop-at (calls_at_rank lists a) (slice_index old.next a) _ front ∙ ap (λ (n : ℕ). Post m.to m.head m.bytes ∷ drop n (calls_at_rank lists a)) (sym (adv.own ∙ ap (λ (l : List ℕ). slice_index l a + 1) next)))
          (λ j other. adv.others j other ∙ ap (λ (l : List ℕ). slice_index l j) next);
      slots = alone_slot a None (Some m) old new empty
          (ap (λ (l : List (Option ℕ)). slot_of_lists lists l a) (adv.posted ∙ noted) ∙ put_slot)
          (λ j other. ap (λ (l : List (Option ℕ)). get_or l j None) (adv.posted ∙ noted) ∙ get_or-set_other old.posted a j (Some (slice_index old.next a)) None other);
    };
    kept = λ b asleep. awake_kept old mid m.to woken to_below b (adv.kept b asleep);
    woken_callers = λ k within asleep. adv.caller (subst (Sleeps new) (eqb-true k a within) asleep);
    woken_partners = λ k within asleep. adv.partner (subst (λ (x : ℕ). Sleeps new (partner_of (setup_key s) x (calls_left lists new.next x))) (eqb-true k a within) asleep);
    woken_slot = λ k within asleep. adv.caller (subst (Sleeps new) (eqb-true k a within) asleep);
    woken_taker = λ t is asleep.
        let same : m ≡ t = cc in
        awake_same old mid m.to woken to_below (adv.kept m.to (subst (λ (x : Outgoing). Sleeps new x.to) (sym same) asleep));
  }
    where
      put_slot : slot_of_lists lists (set old.posted a (Some (slice_index old.next a))) a ≡ Some m
      put_slot =
          let noted_at : get_or (set old.posted a (Some (slice_index old.next a))) a None ≡ Some (slice_index old.next a) = get_or-set_same old.posted a (Some (slice_index old.next a)) None below in
          ap (slot_by a) noted_at ∙ ap (λ (c : Option DataCall). option_and_then outgoing_of c) front

  -- a rank takes a posted message
  pub take_acts : (a from : ℕ) (m : Outgoing) (old mid new : Progress) → m.to ≡ a → slice_get (calls_at_rank lists a) (slice_index old.next a) ≡ Some (Recv from m.head m.bytes) → slot_of_lists lists old.posted from ≡ Some m
      → mid.next ≡ old.next → mid.posted ≡ set old.posted from None → mid.awake ≡ set old.awake from true → from < length old.posted → from < length old.awake
      → Advances s lists a mid new → Acts s lists (Taking from m) old new
  take_acts a from m old mid new is_to front full next noted woken below awake_below adv = record {
    makes = record {
      proper = tt;
      calls = subst (λ (x : ℕ). Change (only x) (λ k before after. before ≡ Recv from m.head m.bytes ∷ after) (calls_left lists old.next) (calls_left lists new.next)) (sym is_to)
          (alone_calls a (Recv from m.head m.bytes) old new
          (drop-at (calls_at_rank lists a) (slice_index old.next a) _ front ∙ ap (λ (n : ℕ). Recv from m.head m.bytes ∷ drop n (calls_at_rank lists a)) (sym (adv.own ∙ ap (λ (l : List ℕ). slice_index l a + 1) next)))
          (λ j other. adv.others j other ∙ ap (λ (l : List ℕ). slice_index l j) next));
      slots = alone_slot from (Some m) None old new full
          (ap (λ (l : List (Option ℕ)). slot_of_lists lists l from) (adv.posted ∙ noted) ∙ put_slot)
          (λ j other. ap (λ (l : List (Option ℕ)). get_or l j None) (adv.posted ∙ noted) ∙ get_or-set_other old.posted from j None None other);
    };
    kept = λ b asleep. awake_kept old mid from woken awake_below b (adv.kept b asleep);
    woken_callers = λ k within asleep. adv.caller (subst (Sleeps new) (eqb-true k m.to within ∙ is_to) asleep);
    woken_partners = λ k within asleep. adv.partner (subst (λ (x : ℕ). Sleeps new (partner_of (setup_key s) x (calls_left lists new.next x))) (eqb-true k m.to within ∙ is_to) asleep);
    woken_slot = λ k within asleep. awake_same old mid from woken awake_below (adv.kept from (subst (Sleeps new) (eqb-true k from within) asleep));
    woken_taker = λ t is asleep. absurd cc;
  }
    where
      put_slot : slot_of_lists lists (set old.posted from None) from ≡ None
      put_slot = ap (slot_by from) (get_or-set_same old.posted from None None below)

  -- a send meets its receive
  pub pair_acts : (from : ℕ) (m : Outgoing) (old mid new : Progress) → m.to ≢ from → slice_get (calls_at_rank lists from) (slice_index old.next from) ≡ Some (Send m.to m.head m.bytes)
      → slice_get (calls_at_rank lists m.to) (slice_index old.next m.to) ≡ Some (Recv from m.head m.bytes) → slot_of_lists lists old.posted from ≡ None
      → Advances s lists from old mid → Advances s lists m.to mid new → Acts s lists (Pairing from m) old new
  pair_acts from m old mid new apart front asked empty first second = record {
    makes = record {
      proper = λ same. apart (sym same);
      calls = record { changed = changed; others = others };
      slots = alone_slot from None None old new empty (ap (λ (l : List (Option ℕ)). slot_of_lists lists l from) (second.posted ∙ first.posted) ∙ empty) (λ j other. ap (λ (l : List (Option ℕ)). get_or l j None) (second.posted ∙ first.posted));
    };
    kept = λ b asleep. first.kept b (second.kept b asleep);
    woken_callers = λ k within asleep. ⊎_elim (λ (at : (k == from) ≡ true). own_awake k (eqb-true k from at) asleep) (λ (at : (k == m.to) ≡ true). second.caller (subst (Sleeps new) (eqb-true k m.to at) asleep)) (or_cases (k == from) (k == m.to) within);
    woken_partners = λ k within asleep. ⊎_elim
        (λ (at : (k == from) ≡ true). first.partner (second.kept _ (subst (λ (x : List DataCall). Sleeps new (partner_of (setup_key s) from x)) (sym still) (subst (λ (x : ℕ). Sleeps new (partner_of (setup_key s) x (calls_left lists new.next x))) (eqb-true k from at) asleep))))
        (λ (at : (k == m.to) ≡ true). second.partner (subst (λ (x : ℕ). Sleeps new (partner_of (setup_key s) x (calls_left lists new.next x))) (eqb-true k m.to at) asleep))
        (or_cases (k == from) (k == m.to) within);
    woken_slot = λ k within asleep. own_awake k (eqb-true k from within) asleep;
    woken_taker = λ t is asleep. absurd cc;
  }
    where
      own_awake : (k : ℕ) → k ≡ from → Sleeps new k → ⊥
      own_awake k at asleep = first.caller (second.kept from (subst (Sleeps new) at asleep))

      still : calls_left lists mid.next from ≡ calls_left lists new.next from
      still = left_same lists from mid.next new.next (second.others from (λ same. apart (sym same)))

      sender : calls_left lists old.next from ≡ Send m.to m.head m.bytes ∷ calls_left lists new.next from
      sender = drop-at (calls_at_rank lists from) (slice_index old.next from) _ front ∙ ap (λ (n : ℕ). Send m.to m.head m.bytes ∷ drop n (calls_at_rank lists from)) (sym first.own) ∙ ap (λ (l : List DataCall). Send m.to m.head m.bytes ∷ l) still

      receiver : calls_left lists old.next m.to ≡ Recv from m.head m.bytes ∷ calls_left lists new.next m.to
      receiver =
          drop-at (calls_at_rank lists m.to) (slice_index old.next m.to) _ asked
          ∙ ap (λ (n : ℕ). Recv from m.head m.bytes ∷ drop n (calls_at_rank lists m.to)) (sym (second.own ∙ ap (λ (n : ℕ). n + 1) (first.others m.to apart)))

      at_sender : (b : Bool) → (from == from) ≡ b → b ≡ true → calls_left lists old.next from ≡ (if b then Send m.to m.head m.bytes else Recv from m.head m.bytes) ∷ calls_left lists new.next from
      at_sender true is t = sender
      at_sender false is t = absurd (true≢false (sym t))

      at_receiver : (b : Bool) → b ≡ false → calls_left lists old.next m.to ≡ (if b then Send m.to m.head m.bytes else Recv from m.head m.bytes) ∷ calls_left lists new.next m.to
      at_receiver true t = absurd (true≢false t)
      at_receiver false t = receiver

      changed : (k : ℕ) → both from m.to k ≡ true → calls_left lists old.next k ≡ call_at (Pairing from m) k ∷ calls_left lists new.next k
      changed k within =
          ⊎_elim
          (λ (at : (k == from) ≡ true). subst (λ (x : ℕ). calls_left lists old.next x ≡ call_at (Pairing from m) x ∷ calls_left lists new.next x) (sym (eqb-true k from at)) (at_sender (from == from) refl (itself from)))
          (λ (at : (k == m.to) ≡ true). subst (λ (x : ℕ). calls_left lists old.next x ≡ call_at (Pairing from m) x ∷ calls_left lists new.next x) (sym (eqb-true k m.to at)) (at_receiver (m.to == from) (ne_eqb m.to from apart)))
          (or_cases (k == from) (k == m.to) within)

      others : (k : ℕ) → both from m.to k ≡ false → calls_left lists old.next k ≡ calls_left lists new.next k
      others k without =
          let parts = or_parts (k == from) (k == m.to) without in
          left_same lists k old.next new.next (second.others k (eqb-false k m.to parts.1) ∙ first.others k (eqb-false k from parts.0))

  -- the members of a group pass a barrier
  pub meet_acts : (comm root : ℕ) (old new : Progress) → root < s.nue → place_in (setup_key s comm) root ≡ 0 → s.nue ≤ 48
      → ((k : ℕ) → in_group s.nue (setup_key s) comm root k ≡ true → slice_get (calls_at_rank lists k) (slice_index old.next k) ≡ Some (Bar comm))
      → ((k : ℕ) → in_group s.nue (setup_key s) comm root k ≡ true → k < 48)
      → Meets s lists (in_group s.nue (setup_key s) comm root) 48 old new → Acts s lists (Meeting comm root) old new
  meet_acts comm root old new below zeroth ranks at within meets = record {
    makes = record {
      proper = record { below = below; zeroth = zeroth };
      calls = record {
        changed = λ k member. drop-at (calls_at_rank lists k) (slice_index old.next k) _ (at k member) ∙ ap (λ (n : ℕ). Bar comm ∷ drop n (calls_at_rank lists k)) (sym (meets.own k (within k member) member));
        others = λ k other. left_same lists k old.next new.next (meets.others k other);
      };
      slots = record { changed = λ k never. absurd (true≢false (sym never)); others = λ k same. ap (λ (l : List (Option ℕ)). slot_of_lists lists l k) (sym meets.posted) };
    };
    kept = meets.kept;
    woken_callers = λ k member. meets.callers k (within k member) member;
    woken_partners = λ k member. meets.partners k (within k member) member;
    woken_slot = λ k never. absurd (true≢false (sym never));
    woken_taker = λ t is asleep. absurd cc;
  }

  pub no_pair : (from : ℕ) (m : Outgoing) (p : Progress) → (slice_get (calls_at_rank lists m.to) (slice_index p.next m.to) ≡ Some (Recv from m.head m.bytes) → ⊥) → (t : Standing) → Makes s.nue (setup_key s) (Pairing from m) (standing_of lists p) t → ⊥
  no_pair from m p other t makes = other (get-drop (calls_at_rank lists m.to) (slice_index p.next m.to) (Recv from m.head m.bytes) (t.calls m.to) asked)
    where
      by_test : (b : Bool) → (m.to == from) ≡ b → calls_left lists p.next m.to ≡ (if b then Send m.to m.head m.bytes else Recv from m.head m.bytes) ∷ t.calls m.to → calls_left lists p.next m.to ≡ Recv from m.head m.bytes ∷ t.calls m.to
      by_test true is e = absurd (makes.proper (sym (eqb-true m.to from is)))
      by_test false is e = e

      both_right : (a b : Bool) → b ≡ true → (a || b) ≡ true
      both_right true b is = refl
      both_right false b is = is

      asked : calls_left lists p.next m.to ≡ Recv from m.head m.bytes ∷ t.calls m.to
      asked = by_test (m.to == from) refl (makes.calls.changed m.to (both_right (m.to == from) (m.to == m.to) (itself m.to)))

  pub no_meet_root : (comm root : ℕ) (p : Progress) → (place_in (setup_key s comm) root ≡ 0 → ⊥) → (t : Standing) → Makes s.nue (setup_key s) (Meeting comm root) (standing_of lists p) t → ⊥
  no_meet_root comm root p other t makes = other makes.proper.zeroth

  pub no_meet : (comm root : ℕ) (p : Progress)
      → (((k : ℕ) → in_group s.nue (setup_key s) comm root k ≡ true → slice_get (calls_at_rank lists k) (slice_index p.next k) ≡ Some (Bar comm)) → ⊥)
      → (t : Standing) → Makes s.nue (setup_key s) (Meeting comm root) (standing_of lists p) t → ⊥
  no_meet comm root p other t makes = other (λ k member. get-drop (calls_at_rank lists k) (slice_index p.next k) (Bar comm) (t.calls k) (makes.calls.changed k member))

-- a fact of each call of a list
pub all_get : {X : Type 0} (P : X → Type 0) (xs : List X) (n : ℕ) (x : X) → All P xs → slice_get xs n ≡ Some x → P x
all_get P xs n x all is = subst P (get_or_from_slice_get xs n x x is) (all n x (slice_get_within xs n x is))

-- the call at a place, in other words
pub front_of : (lists : List (List DataCall)) (next : List ℕ) (r place : ℕ) (x y : DataCall) → place ≡ r → Some x ≡ slice_get (calls_at_rank lists place) (slice_index next place) → x ≡ y
    → slice_get (calls_at_rank lists r) (slice_index next r) ≡ Some y
front_of lists next r place x y at is same =
    sym (ap (λ (n : ℕ). slice_get (calls_at_rank lists n) (slice_index next n)) at) ∙ sym is ∙ ap Some same

-- a rank that has a call is one of the run
pub rank_below : (s : SetupView) (lists : List (List DataCall)) (r n : ℕ) (c : DataCall) → AreLists s lists → slice_get (calls_at_rank lists r) n ≡ Some c → r < s.nue
rank_below s lists r n c are is =
    ⊎_elim
    (λ (below : r < s.nue). below)
    (λ (above : s.nue ≤ r). let none = are.no_others r above in let within = slice_get_within (calls_at_rank lists r) n c is in absurd (omega (arith, within, ap length none)))
    (cases_lt r s.nue)

module _ (s : SetupView) (lists : List (List DataCall)) where
  -- the same as above, where the code's places are those of the ranks
  pub post_at : (a place to_place : ℕ) (m : Outgoing) (old mid new : Progress) → place ≡ a → to_place ≡ m.to → slice_get (calls_at_rank lists a) (slice_index old.next a) ≡ Some (Post m.to m.head m.bytes) → slot_of_lists lists old.posted place ≡ None
      → mid.next ≡ old.next → mid.posted ≡ set old.posted place (Some (slice_index old.next place)) → mid.awake ≡ set old.awake to_place true → a < length old.posted → m.to < length old.awake
      → Advances s lists place mid new → Acts s lists (Posting a m) old new
  post_at a place to_place m old mid new at to_at front empty next noted woken below to_below adv =
      post_acts s lists a m old mid new front (subst (λ (x : ℕ). slot_of_lists lists old.posted x ≡ None) at empty) next
      (noted ∙ ap (λ (x : ℕ). set old.posted x (Some (slice_index old.next x))) at) (woken ∙ ap (λ (x : ℕ). set old.awake x true) to_at) below to_below
      (subst (λ (x : ℕ). Advances s lists x mid new) at adv)

  pub take_at : (a place from sender : ℕ) (m : Outgoing) (old mid new : Progress) → place ≡ a → sender ≡ from → m.to ≡ a → slice_get (calls_at_rank lists a) (slice_index old.next a) ≡ Some (Recv from m.head m.bytes) → slot_of_lists lists old.posted sender ≡ Some m
      → mid.next ≡ old.next → mid.posted ≡ set old.posted sender None → mid.awake ≡ set old.awake sender true → from < length old.posted → from < length old.awake
      → Advances s lists place mid new → Acts s lists (Taking from m) old new
  take_at a place from sender m old mid new at from_at is_to front full next noted woken below awake_below adv =
      take_acts s lists a from m old mid new is_to front (subst (λ (x : ℕ). slot_of_lists lists old.posted x ≡ Some m) from_at full) next
      (noted ∙ ap (λ (x : ℕ). set old.posted x None) from_at) (woken ∙ ap (λ (x : ℕ). set old.awake x true) from_at) below awake_below
      (subst (λ (x : ℕ). Advances s lists x mid new) at adv)

  pub pair_at : (from sender receiver : ℕ) (m : Outgoing) (old mid new : Progress) → sender ≡ from → receiver ≡ m.to → m.to ≢ from → slice_get (calls_at_rank lists from) (slice_index old.next from) ≡ Some (Send m.to m.head m.bytes)
      → slice_get (calls_at_rank lists receiver) (slice_index old.next receiver) ≡ Some (Recv from m.head m.bytes) → slot_of_lists lists old.posted sender ≡ None
      → Advances s lists sender old mid → Advances s lists receiver mid new → Acts s lists (Pairing from m) old new
  pair_at from sender receiver m old mid new at to_at apart front asked empty first second =
      pair_acts s lists from m old mid new apart front (subst (λ (x : ℕ). slice_get (calls_at_rank lists x) (slice_index old.next x) ≡ Some (Recv from m.head m.bytes)) to_at asked)
      (subst (λ (x : ℕ). slot_of_lists lists old.posted x ≡ None) at empty) (subst (λ (x : ℕ). Advances s lists x old mid) at first) (subst (λ (x : ℕ). Advances s lists x mid new) to_at second)

  -- one more rank of a group, or one of another
  pub meets_member : (group : ℕ → Bool) (n : ℕ) (old mid new : Progress) → Meets s lists group n old mid → group n ≡ true → Advances s lists n mid new → Meets s lists group (n + 1) old new
  meets_member group n old mid new meets member adv = record {
    own = λ k under in_group. ⊎_elim
        (λ (at : k ≡ n). subst (λ (x : ℕ). slice_index new.next x ≡ slice_index old.next x + 1) (sym at) (adv.own ∙ ap (λ (m : ℕ). m + 1) (meets.later n (omega arith))))
        (λ (other : k ≢ n). adv.others k other ∙ meets.own k (omega (arith, other)) in_group)
        (cases_eq k n);
    others = λ k out. adv.others k (apart k out) ∙ meets.others k out;
    later = λ k above. adv.others k (λ at. omega (arith, at)) ∙ meets.later k (omega arith);
    posted = adv.posted ∙ meets.posted;
    kept = λ b asleep. meets.kept b (adv.kept b asleep);
    callers = λ k under in_group asleep. ⊎_elim
        (λ (at : k ≡ n). adv.caller (subst (Sleeps new) at asleep))
        (λ (other : k ≢ n). meets.callers k (omega (arith, other)) in_group (adv.kept k asleep))
        (cases_eq k n);
    partners = λ k under in_group asleep. ⊎_elim
        (λ (at : k ≡ n). adv.partner (subst (λ (x : ℕ). Sleeps new (partner_of (setup_key s) x (calls_left lists new.next x))) at asleep))
        (λ (other : k ≢ n).
        meets.partners k (omega (arith, other)) in_group
        (adv.kept _ (subst (λ (l : List DataCall). Sleeps new (partner_of (setup_key s) k l)) (sym (left_same lists k mid.next new.next (adv.others k other))) asleep)))
        (cases_eq k n);
  }
    where
      apart : (k : ℕ) → group k ≡ false → k ≢ n
      apart k out at = true≢false (sym member ∙ sym (ap group at) ∙ out)

  pub meets_other : (group : ℕ → Bool) (n : ℕ) (old new : Progress) → Meets s lists group n old new → group n ≡ false → Meets s lists group (n + 1) old new
  meets_other group n old new meets out = record {
    own = λ k under in_group. meets.own k (lower k under in_group) in_group;
    others = meets.others;
    later = λ k above. meets.later k (omega arith);
    posted = meets.posted;
    kept = meets.kept;
    callers = λ k under in_group. meets.callers k (lower k under in_group) in_group;
    partners = λ k under in_group. meets.partners k (lower k under in_group) in_group;
  }
    where
      lower : (k : ℕ) → k < n + 1 → group k ≡ true → k < n
      lower k under in_group =
          ⊎_elim
          (λ (at : k ≡ n). absurd (true≢false (sym in_group ∙ ap group at ∙ out)))
          (λ (other : k ≢ n). omega (arith, other))
          (cases_eq k n)

  -- the step of a first call is the rank's step
  pub tries_first : (a : ℕ) (call : DataCall) (old new : Progress) (result : Bool) → slice_get (calls_at_rank lists a) (slice_index old.next a) ≡ Some call → Tries s lists (own_step a call) old new result → TriesFirst s lists a old new result
  tries_first a call old new true front acts = (own_step a call, owner_of-own_step a call, acts)
  tries_first a call old new false front (same, never) =
      (same, no_other_step s.nue (setup_key s) a (standing_of lists old) call (drop (slice_index old.next a + 1) (calls_at_rank lists a)) (drop-at (calls_at_rank lists a) (slice_index old.next a) call front) never)

  pub none_first : (a : ℕ) (p : Progress) → slice_get (calls_at_rank lists a) (slice_index p.next a) ≡ None → TriesFirst s lists a p p false
  none_first a p none = (refl, λ t. no_step s.nue (setup_key s) a (standing_of lists p) t (drop-none (calls_at_rank lists a) (slice_index p.next a) none))

  -- a rank that has no step falls asleep
  pub sleep_quiet : (a : ℕ) (old new after : Progress) → TriesFirst s lists a old new false → after.next ≡ new.next → after.posted ≡ new.posted → after.awake ≡ set new.awake a false → a < length new.awake
      → IsQuiet s lists old → IsQuiet s lists after
  sleep_quiet a old new after (same, never) next posted awake below quiet b asleep t own =
      ⊎_elim
      (λ (at : b ≡ a). never t (subst (λ (x : ℕ). OwnStep s.nue (setup_key s) x (standing_of lists old) t) at own_old))
      (λ (other : b ≢ a). quiet b (ap (λ (p : Progress). get_or p.awake b false) (sym same) ∙ kept other) t own_old)
      (cases_eq b a)
    where
      standing : standing_of lists after ≡ standing_of lists old
      standing =
          ap (λ (l : List ℕ). record { calls = calls_left lists l; slots = slot_of_lists lists after.posted }) next
          ∙ ap (λ (l : List (Option ℕ)). record { calls = calls_left lists new.next; slots = slot_of_lists lists l }) posted
          ∙ ap (standing_of lists) same

      own_old : OwnStep s.nue (setup_key s) b (standing_of lists old) t
      own_old = subst (λ (x : Standing). OwnStep s.nue (setup_key s) b x t) standing own

      kept : b ≢ a → get_or new.awake b false ≡ false
      kept other = sym (ap (λ (l : List Bool). get_or l b false) awake ∙ get_or-set_other new.awake a b false false other) ∙ asleep

  pub step_quiet : (a : ℕ) (old new : Progress) → TriesFirst s lists a old new true → IsQuiet s lists old → IsQuiet s lists new
  step_quiet a old new (step, owner, acts) quiet = quiet_after s lists step old new acts quiet

-- a sweep so far: steps were made, or the ranks so far sleep and nothing has changed
pub record IsSwept (s : SetupView) (lists : List (List DataCall)) (n : ℕ) (first p : Progress) (moved : Bool) : Type 0 where
  pub quiet : IsQuiet s lists p
  pub leads : Leads s (standing_of lists first) (standing_of lists p)
  pub fewer : moved ≡ true → count_left (standing_of lists p) 48 < count_left (standing_of lists first) 48
  pub same : moved ≡ false → standing_of lists p ≡ standing_of lists first
  pub sleeps : moved ≡ false → (b : ℕ) → b < n → Sleeps p b

module _ (s : SetupView) (lists : List (List DataCall)) (first : Progress) where
  pub swept_none : IsQuiet s lists first → IsSwept s lists 0 first first false
  swept_none quiet = record { quiet = quiet; leads = leads_none s (standing_of lists first); fewer = λ is. absurd (true≢false (sym is)); same = λ is. refl; sleeps = λ is b below. absurd (omega (arith, below)) }

  no_more : (n : ℕ) (p : Progress) (moved : Bool) → IsSwept s lists n first p moved → count_left (standing_of lists p) 48 ≤ count_left (standing_of lists first) 48
  no_more n p true swept = omega (arith, swept.fewer refl)
  no_more n p false swept = omega (arith, ap (λ (x : Standing). count_left x 48) (swept.same refl))

  pub swept_step : (n : ℕ) (p q : Progress) (moved : Bool) → n < 48 → IsSwept s lists n first p moved → IsQuiet s lists q → VisitDoes s lists n p q true → IsSwept s lists (n + 1) first q true
  swept_step n p q moved below swept quiet own = record {
    quiet = quiet;
    leads = leads_step s n (standing_of lists first) (standing_of lists p) (standing_of lists q) swept.leads own;
    fewer = λ is. omega (arith, no_more n p moved swept, own_fewer s.nue (setup_key s) n 48 (standing_of lists p) (standing_of lists q) below own);
    same = λ is. absurd (true≢false is);
    sleeps = λ is. absurd (true≢false is);
  }

  pub swept_sleep : (n : ℕ) (p q : Progress) (moved : Bool) → IsSwept s lists n first p moved → IsQuiet s lists q → VisitDoes s lists n p q false → IsSwept s lists (n + 1) first q moved
  swept_sleep n p q moved swept quiet (is, asleep, kept) = record {
    quiet = quiet;
    leads = subst (λ (x : Standing). Leads s (standing_of lists first) x) (sym is) swept.leads;
    fewer = λ m. omega (arith, swept.fewer m, ap (λ (x : Standing). count_left x 48) is);
    same = λ m. is ∙ swept.same m;
    sleeps = λ m b below. ⊎_elim
        (λ (at : b ≡ n). subst (Sleeps q) (sym at) asleep)
        (λ (other : b ≢ n). kept b (swept.sleeps m b (omega (arith, below, other))))
        (cases_eq b n);
  }

  pub swept_all : (n : ℕ) (p : Progress) (moved : Bool) → 48 ≤ n → IsSwept s lists n first p moved → SweepDoes lists first p moved
  swept_all n p true all swept = swept.fewer refl
  swept_all n p false all swept = (swept.same refl, λ b below. swept.sleeps refl b (omega (arith, all, below)))

-- sweeps come to an end
pub sweeps_end : (lists : List (List DataCall)) (p q : Progress) (was moved : Bool) → was ≡ true → SweepDoes lists p q moved → 2 * count_left (standing_of lists q) 48 + cond moved 1 0 < 2 * count_left (standing_of lists p) 48 + cond was 1 0
sweeps_end lists p q true true is fewer = omega (arith, fewer)
sweeps_end lists p q true false is (same, asleep) = omega (arith, ap (λ (x : Standing). count_left x 48) same)
sweeps_end lists p q false moved is sweeps = absurd (true≢false (sym is))

pub sweeps_asleep : (lists : List (List DataCall)) (p q : Progress) (moved : Bool) → SweepDoes lists p q moved → moved ≡ false → (b : ℕ) → b < 48 → Sleeps q b
sweeps_asleep lists p q true fewer is = absurd (true≢false is)
sweeps_asleep lists p q false (same, asleep) is = asleep
