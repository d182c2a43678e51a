-- Each permitted load is one move on the view that the words show; views that are the same.
use Rattle.std.proofs.Common.{◌≡◌, ◌≢◌, ℕ, ◌+◌, ◌*◌, ◌/◌, ◌%◌, ◌<◌, Bool, true, false, not, ◌&&◌, ◌==◌, if◌then◌else◌, refl, sym, ◌∙◌, ap, subst}
use Rattle.std.specs.Prelude.{nat_lt}
use Rattle.std.specs.Int.{bit_at}
use Rattle.scc_base.specs.Places.{WordAt, flag_in}
use Rattle.scc_base.specs.Layouts.{first_signal, signal_at, signal_word, first_chunk, chunk_lines}
use Rattle.scc_base.specs.declared.signals.Signal.{Signal}
use Rattle.scc_base.specs.Setups.{SetupView, host_of, setup_key, place_of}
use Rattle.scc_base.specs.declared.layouts.Layout.{Layout}
use Rattle.scc_base.specs.declared.layouts.Layout.TheVariants.{LineFlags, BitFlags}
use Rattle.scc_base.proofs.GroupFacts.{root_is}
use Rattle.scc_proto.specs.Stages.{Record}
use Rattle.scc_proto.specs.Moves.{Move, LookSignal, LookGather, LookRelease, NoMove}
use Rattle.scc_proto.specs.Permission.{permits}
use Rattle.scc_proto.specs.Words.{Memory, word_at, Role, HeaderWord, ChunkWord, SignalFlag, SignalFlags, GatherFlag, ReleaseFlag, HeapWord, IdleWord, are_peers, is_present}
use Rattle.scc_proto.specs.Records.{load_by, look_at, look_at_bits, leads, chunk_of}
use Rattle.scc_proto.specs.Views.{View, word_of_flag, view_of, view_after_move}
use Rattle.scc_proto.proofs.Layouts.MoveFacts.{IsMember, IsMoveOf, Tells, SameView}
use Rattle.scc_proto.proofs.Tests.{same_by_eqb, eqb_same, both_first, both_second, not_true, true_not_false, peers_swap}
use Rattle.scc_proto.proofs.Layouts.Roles.{if_yes, lt_yes, eq_is, IsOwn, own_is, Stands}

-- ---- views

pub same_view : (s : SetupView) (view : View) → SameView s view view
same_view s view = record { signal = λ signal by at peers. refl; header = λ r k lt. refl; chunk = λ r k lt. refl; gather = λ comm r present lt. refl; release = λ comm r present lt. refl }

pub view_is : (s : SetupView) (one other : View) → one ≡ other → SameView s one other
view_is s one other e = subst (λ (view : View). SameView s one view) e (same_view s one)

pub view_then : (s : SetupView) (one other third : View) → SameView s one other → SameView s other third → SameView s one third
view_then s one other third a b = record {
  signal = λ signal by at peers. a.signal signal by at peers ∙ b.signal signal by at peers;
  header = λ r k lt. a.header r k lt ∙ b.header r k lt;
  chunk = λ r k lt. a.chunk r k lt ∙ b.chunk r k lt;
  gather = λ comm r present lt. a.gather comm r present lt ∙ b.gather comm r present lt;
  release = λ comm r present lt. a.release comm r present lt ∙ b.release comm r present lt;
}

pub either : (P : Move → Type 0) (b : Bool) (x y : Move) → (b ≡ true → P x) → (b ≡ false → P y) → P (if b then x else y)
either P true x y one two = one refl
either P false x y one two = two refl

-- ---- groups

pub leads_member : (s : SetupView) (me comm r : ℕ) → is_present s comm ≡ true → r < s.nue → leads s comm me r ≡ true → IsMember s me comm r (place_of s comm r)
leads_member s me comm r present lt t =
    let key : setup_key s comm r ≡ setup_key s comm me = same_by_eqb (setup_key s comm r) (setup_key s comm me) (both_first (setup_key s comm r == setup_key s comm me) (place_of s comm me == 0) t) in
    let first : place_of s comm me ≡ 0 = same_by_eqb (place_of s comm me) 0 (both_second (setup_key s comm r == setup_key s comm me) (place_of s comm me == 0) t) in
    record { present = present; below = lt; root = sym (root_is (setup_key s comm) r me (sym key) first); first = first; at = refl }

follows : (s : SetupView) (me comm : ℕ) → leads s comm me me ≡ false → place_of s comm me ≢ 0
follows s me comm f = λ first. true_not_false (sym (λ i. eqb_same (setup_key s comm me) i && eqb_same 0 i) ∙ ap (λ (x : ℕ). (setup_key s comm me == setup_key s comm me) && (x == 0)) (sym first) ∙ f)

-- ---- loads

-- a load is this move
pub record LoadsAs (s : SetupView) (me : ℕ) (view : View) (rec : Record) (move : Move) : Type 0 where
  pub own : IsMoveOf s me move
  pub told : Tells me move view
  pub permitted : permits (chunk_of s) move rec ≡ true
  pub shows : view_after_move me move view ≡ view

module _ (s : SetupView) (memory : Memory) (rec : Record) (me : ℕ) (below : me < s.nue) (place : WordAt) (value : ℕ) (tells : word_at memory place ≡ value) where
  pub no_move : LoadsAs s me (view_of s memory) rec NoMove
  no_move = record { own = tt; told = tt; permitted = refl; shows = refl }

  word_is : (owner line word : ℕ) → IsOwn s place owner line word → memory.word (host_of s.hosts owner) line word ≡ value
  word_is owner line word own = ap (word_at memory) (sym (own_is s place owner line word own)) ∙ tells

  line_is : (signal : Signal) (by at : ℕ) → IsOwn s place at (first_signal signal + by) 0 → s.layout ≡ LineFlags → (view_of s memory).signal signal by at ≡ value
  line_is signal by at own lines =
      ap (λ (layout : Layout). flag_in (signal_at layout signal by).bit (word_of_flag memory (host_of s.hosts at) (signal_at layout signal by))) lines ∙ word_is at (first_signal signal + by) 0 own

  bit_is : (signal : Signal) (owner by : ℕ) → IsOwn s place owner 1 (signal_word signal) → s.layout ≡ BitFlags → (view_of s memory).signal signal by owner ≡ bit_at value by
  bit_is signal owner by own bits =
      ap (λ (layout : Layout). flag_in (signal_at layout signal by).bit (word_of_flag memory (host_of s.hosts owner) (signal_at layout signal by))) bits
      ∙ ap (λ (w : ℕ). bit_at w by) (word_is owner 1 (signal_word signal) own)

  pub loads_as : (role : Role) → Stands s place role → LoadsAs s me (view_of s memory) rec (load_by s me value role)
  loads_as (HeaderWord owner k) st = record { own = tt; told = word_is owner 0 k st; permitted = refl; shows = refl }
  loads_as (ChunkWord owner k) st = record {
    own = tt;
    told = if_yes (nat_lt k (4 * chunk_lines s.layout)) _ 0 (lt_yes k _ st.1) ∙ word_is owner (first_chunk s.layout + k / 4) (k % 4) st.0;
    permitted = refl;
    shows = refl;
  }
  loads_as (SignalFlag signal by at) st = either (LoadsAs s me (view_of s memory) rec) (at == me) (LookSignal signal (look_at by value)) NoMove
      (λ t. let own = eq_is at me t in record {
        own = λ j u. let same = eq_is j by (both_first (j == by) (value == 1) u) in
            subst (λ (x : ℕ). are_peers s me x ≡ true) (sym same) (peers_swap s by me (subst (λ (x : ℕ). are_peers s by x ≡ true) own st.1));
        told = λ j u. let same = eq_is j by (both_first (j == by) (value == 1) u) in
            ap (λ (x : ℕ). (view_of s memory).signal signal x me) same ∙ ap (λ (x : ℕ). (view_of s memory).signal signal by x) (sym own) ∙ line_is signal by at st.0 st.2 ∙ eq_is value 1 (both_second (j == by) (value == 1) u);
        permitted = refl;
        shows = refl;
      })
      (λ f. no_move)
  loads_as (SignalFlags signal at) st = either (LoadsAs s me (view_of s memory) rec) (at == me) (LookSignal signal (look_at_bits s me value)) NoMove
      (λ t. let own = eq_is at me t in record {
        own = λ j u. both_first (are_peers s me j) (bit_at value j == 1) u;
        told = λ j u. ap (λ (x : ℕ). (view_of s memory).signal signal j x) (sym own) ∙ bit_is signal at j st.0 st.1 ∙ eq_is (bit_at value j) 1 (both_second (are_peers s me j) (bit_at value j == 1) u);
        permitted = refl;
        shows = refl;
      })
      (λ f. no_move)
  loads_as (GatherFlag comm owner) st = either (LoadsAs s me (view_of s memory) rec) (leads s comm me owner) (LookGather comm owner (place_of s comm owner) value) NoMove
      (λ t. record { own = leads_member s me comm owner st.1 st.0.below t; told = word_is owner _ _ st.0; permitted = refl; shows = refl })
      (λ f. no_move)
  loads_as (ReleaseFlag comm owner) st = either (LoadsAs s me (view_of s memory) rec) ((owner == me) && not (leads s comm me me)) (LookRelease comm value) NoMove
      (λ t. let own = eq_is owner me (both_first (owner == me) (not (leads s comm me me)) t) in
      record {
        own = (st.1, follows s me comm (not_true (leads s comm me me) (both_second (owner == me) (not (leads s comm me me)) t)));
        told = ap (λ (x : ℕ). (view_of s memory).release comm x) (sym own) ∙ word_is owner _ _ st.0;
        permitted = refl;
        shows = refl;
      })
      (λ f. no_move)
  loads_as HeapWord st = no_move
  loads_as IdleWord st = no_move
