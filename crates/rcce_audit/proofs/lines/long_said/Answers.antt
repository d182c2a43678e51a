use Rattle.std.proofs.Common.{◌≡◌, ℕ, List, [], ◌∷◌, length, get_or, map, Option, Some, None, IfOk, option_map, refl, sym, ◌∙◌, ap, subst, arith}
use Rattle.scc_base.specs.Heads.{MessageHead}
use Rattle.rcce_audit.specs.declared.lines.EndRanks.{EndRanks}
use Rattle.rcce_audit.specs.Grammar.{RankedCall, ends_said, log_head_said, long_said, message_said}
use Rattle.rcce_audit.specs.Views.{ranked_of}
use Rattle.rcce_audit.specs.Words.{◌>>=◌}
use Rattle.rcce_audit.proofs.lines.long_said.Goals as goal

module _ {X : Type 0} (view : X → List ℕ) (nue : ℕ) (d : X) where
  abbrev ends_at : List X → Option EndRanks
  ends_at ws = ends_said nue (view (get_or ws 0 d)) (view (get_or ws 2 d))

  abbrev head_at : List X → Option MessageHead
  head_at ws = log_head_said (view (get_or ws 3 d)) (view (get_or ws 4 d)) (view (get_or ws 5 d))

  abbrev message_at : List X → EndRanks → MessageHead → Option RankedCall
  message_at ws ends head = message_said ends head (view (get_or ws 1 d)) (view (get_or ws 6 d))

  -- what seven words say, by their places
  seven : (ws : List X) → length ws ≡ 7 → long_said nue (map view ws) ≡ (ends_at ws >>= λ ends. head_at ws >>= message_at ws ends)
  seven (w0 ∷ w1 ∷ w2 ∷ w3 ∷ w4 ∷ w5 ∷ w6 ∷ []) is = refl
  seven [] is = absurd (omega arith)
  seven (w0 ∷ []) is = absurd (omega arith)
  seven (w0 ∷ w1 ∷ []) is = absurd (omega arith)
  seven (w0 ∷ w1 ∷ w2 ∷ []) is = absurd (omega arith)
  seven (w0 ∷ w1 ∷ w2 ∷ w3 ∷ []) is = absurd (omega arith)
  seven (w0 ∷ w1 ∷ w2 ∷ w3 ∷ w4 ∷ []) is = absurd (omega arith)
  seven (w0 ∷ w1 ∷ w2 ∷ w3 ∷ w4 ∷ w5 ∷ []) is = absurd (omega arith)
  seven (w0 ∷ w1 ∷ w2 ∷ w3 ∷ w4 ∷ w5 ∷ w6 ∷ w7 ∷ ws) is = absurd (omega arith)

  no_ends : (ws : List X) (ends : Option EndRanks) → length ws ≡ 7 → ends ≡ ends_at ws → ends ≡ None → None ≡ long_said nue (map view ws)
  no_ends ws ends is gives none = sym (seven ws is ∙ ap (λ (o : Option EndRanks). o >>= λ ends. head_at ws >>= message_at ws ends) (sym gives ∙ none))

  some_ends : (ws : List X) (ends : Option EndRanks) (x : EndRanks) → length ws ≡ 7 → ends ≡ ends_at ws → ends ≡ Some x → long_said nue (map view ws) ≡ (head_at ws >>= message_at ws x)
  some_ends ws ends x is gives some = seven ws is ∙ ap (λ (o : Option EndRanks). o >>= λ ends. head_at ws >>= message_at ws ends) (sym gives ∙ some)

  no_head : (ws : List X) (ends : Option EndRanks) (x : EndRanks) (head : Option MessageHead) → length ws ≡ 7 → ends ≡ ends_at ws → ends ≡ Some x → head ≡ head_at ws → head ≡ None
      → None ≡ long_said nue (map view ws)
  no_head ws ends x head is gives some head_gives none = sym (some_ends ws ends x is gives some ∙ ap (λ (o : Option MessageHead). o >>= message_at ws x) (sym head_gives ∙ none))

  some_head : (ws : List X) (ends : Option EndRanks) (x : EndRanks) (head : Option MessageHead) (y : MessageHead) → length ws ≡ 7 → ends ≡ ends_at ws → ends ≡ Some x → head ≡ head_at ws → head ≡ Some y
      → message_at ws x y ≡ long_said nue (map view ws)
  some_head ws ends x head y is gives some head_gives head_some = sym (some_ends ws ends x is gives some ∙ ap (λ (o : Option MessageHead). o >>= message_at ws x) (sym head_gives ∙ head_some))

pub returns-in_default-ends_said : goal.returns-in_default-ends_said
returns-in_default-ends_said c = no_ends (λ word. word.now) c.args.nue _ c.args.words.now c.ends_said.result c.requires.seven c.ends_said.ensures c.in_default-ends_said.is

pub returns-in_default-head_said : goal.returns-in_default-head_said
returns-in_default-head_said c =
    no_head (λ word. word.now) c.args.nue _ c.args.words.now c.ends_said.result c.in-Some.ends c.head_said.result c.requires.seven c.ends_said.ensures c.in-Some.is c.head_said.ensures c.in_default-head_said.is

pub returns : goal.returns
returns c =
    subst (λ (o : Option RankedCall). IfOk c.message_said.result (λ said. option_map ranked_of said ≡ o))
    (some_head (λ word. word.now) c.args.nue _ c.args.words.now c.ends_said.result c.in-Some.ends c.head_said.result c.in-Some-head_said.head c.requires.seven c.ends_said.ensures c.in-Some.is c.head_said.ensures c.in-Some-head_said.is)
    c.message_said.ensures
