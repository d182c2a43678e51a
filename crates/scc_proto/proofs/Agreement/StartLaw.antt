-- Agreement at the start: all words are 0, and no rank has made an event.
use Rattle.std.proofs.Common.{◌≡◌, ℕ, Option, Some, None, inl, refl, arith}
use Rattle.std.proofs.lemmas.Nat.Bits.{bit_at-zero}
use Rattle.scc_base.specs.Layouts.{signal_at}
use Rattle.scc_base.specs.Places.{WordAt, flag_in}
use Rattle.scc_base.specs.Setups.{SetupView, setup_key}
use Rattle.scc_base.specs.declared.signals.Signal.TheVariants.{Sent, Ready}
use Rattle.scc_proto.specs.Stages.{blank}
use Rattle.scc_proto.specs.Words.{zeros, Role, HeaderWord, ChunkWord, SignalFlag, SignalFlags, GatherFlag, ReleaseFlag, HeapWord, IdleWord, role_of}
use Rattle.scc_proto.specs.Pairs.{InRest}
use Rattle.scc_proto.specs.Registers.{Nobody}
use Rattle.scc_proto.specs.Agreement.{WordAgrees, Agrees}
use Rattle.scc_proto.proofs.Agreement.SingleLaw.{single_at_start}
use Rattle.scc_proto.proofs.Legality.LegalLaws.{legal_at_start}

clear_flag : (bit : Option ℕ) → flag_in bit 0 ≡ 0
clear_flag None = refl
clear_flag (Some b) = bit_at-zero b

word_at_start : (s : SetupView) (place : WordAt) (role : Role) → WordAgrees s place 0 (λ r. blank) role
word_at_start s place (HeaderWord owner k) = tt
word_at_start s place (ChunkWord owner k) = tt
word_at_start s place (SignalFlag signal by at) = tt
word_at_start s place (SignalFlags signal at) = λ b idle. bit_at-zero b
word_at_start s place (GatherFlag comm owner) = tt
word_at_start s place (ReleaseFlag comm owner) = tt
word_at_start s place HeapWord = inl refl
word_at_start s place IdleWord = refl

pub agrees_at_start : (s : SetupView) → Agrees s zeros (λ r. blank)
agrees_at_start s = record {
  singles = ((λ r below. single_at_start s r), (λ r beyond. refl));
  pairs = λ from to peers. InRest None (record { sent_flag = clear_flag (signal_at s.layout Sent from).bit; ready_flag = clear_flag (signal_at s.layout Ready to).bit; sending = refl; taking = refl; notes = refl; level = refl });
  senders = λ r below. record { draft = tt; post = tt };
  groups = λ comm r present below. record {
    gather_flag = refl;
    root = λ first. refl;
    member = λ other. record { release_flag = refl; entered = omega arith; not_ahead = omega arith; waits = λ e. absurd (omega (arith, e)); seen = λ t. omega arith };
  };
  registers = λ core. record { holder = Nobody refl (λ k below. refl); noted = λ k below. tt };
  words = λ place is. word_at_start s place (role_of s place);
  calls = legal_at_start s.nue (setup_key s);
}
