-- A load of a rank at home tells the chip's word as it is.
use Rattle.std.proofs.Common.{◌≡◌, ◌≢◌, ℕ, ◌<◌, ◌≤◌, Bool, true, false, nat_lt, List, [], ◌∷◌, ◌++◌, None, refl, sym, ◌∙◌, ap, subst, arith}
use Rattle.std.proofs.lemmas.Bool.Decides.{nat_tests}
use Rattle.scc_base.specs.Places.{WordAt}
use Rattle.scc_base.specs.Events.{load_of}
use Rattle.scc_base.specs.declared.events.Event.{Event}
use Rattle.scc_proto.specs.Stages.{Record}
use Rattle.scc_proto.specs.Tables.{table_with}
use Rattle.scc_proto.specs.Records.{record_of}
use Rattle.scc_proto.specs.Agreement.{Agrees}
use Rattle.scc_proto.specs.Ports.{Seat, Sight, Did}
use Rattle.scc_proto.proofs.Tests.{same_or_other, put_here, put_there}
use Rattle.scc_mesh.specs.SeatViews.{SeatView, events_of_rank, without}
use Rattle.scc_mesh.specs.Keeping.{records_by}
use Rattle.scc_mesh.specs.Scenes.{ChipView, WasSeatStep, IsWhole, about_in, home_in, events_in, records_in, view_coded, sight_in}
use Rattle.scc_mesh.specs.Turns.{Saw, AgreesThen, AgreesNow}
use Rattle.scc_mesh.proofs.ViewLemmas.{known_there}

-- what a port told of an event stands on its chip
pub saw_at : (chip : ChipView) (r hold : ℕ) (events : List Event) (e : Event) → WasSeatStep (sight_in chip r hold).seat events e → Saw chip r events e
saw_at chip r hold events e was =
    let same : without (home_in chip) r ≡ was.resting = view_coded.inj (without (home_in chip) r) was.resting was.rest in record {
      step = record {
        memory = was.step.memory;
        lists = was.step.lists;
        own = was.step.own;
        others = λ q list ne is. was.step.others q list ne (ap (λ (v : SeatView). events_of_rank v q) (sym same) ∙ known_there (home_in chip) r None q ne ∙ is);
        before = was.step.before;
        step = was.step.step;
        after = was.step.after;
      };
    }

-- also after later events of the port
pub saw_later : (old now : ChipView) (r hold : ℕ) (before events : List Event) (e : Event) → Did (sight_in old r hold) events (sight_in now r hold)
    → WasSeatStep (sight_in old r hold).seat before e → Saw now r before e
saw_later old now r hold before events e did was =
    saw_at now r hold before e (subst (λ (s : Seat). WasSeatStep s before e) (sym (ap (λ (x : Sight). x.seat) did.continues)) was)

module _ (chip : ChipView) (r : ℕ) (events : List Event) (place : WordAt) (value : ℕ) (whole : IsWhole chip) (beyond : (q : ℕ) → (about_in chip).nue ≤ q → events_in chip q ≡ [])
    (saw : Saw chip r events (load_of place value)) where
  abbrev then_lists : ℕ → List Event
  then_lists = table_with (events_in chip) r (events ++ load_of place value ∷ [])

  same_there : (q : ℕ) → q ≢ r → saw.step.lists q ≡ events_in chip q
  same_there q ne = by (nat_lt q (about_in chip).nue) refl
    where
      by : (b : Bool) → nat_lt q (about_in chip).nue ≡ b → saw.step.lists q ≡ events_in chip q
      by true t = let below : q < (about_in chip).nue = grind (arith, nat_tests) in saw.step.others q (events_in chip q) ne (whole.home q below)
      by false f = let out : (about_in chip).nue ≤ q = grind (arith, nat_tests) in saw.step.before.beyond q out ∙ sym (beyond q out)

  same_lists : (q : ℕ) → table_with saw.step.lists r (events ++ load_of place value ∷ []) q ≡ then_lists q
  same_lists q = same_or_other (table_with saw.step.lists r (events ++ load_of place value ∷ []) q ≡ then_lists q) q r
      (λ t is. subst (λ k. table_with saw.step.lists r (events ++ load_of place value ∷ []) k ≡ then_lists k) (sym is)
      (put_here saw.step.lists r (events ++ load_of place value ∷ []) ∙ sym (put_here (events_in chip) r (events ++ load_of place value ∷ []))))
      (λ t ne. put_there saw.step.lists r (events ++ load_of place value ∷ []) q ne ∙ same_there q ne ∙ sym (put_there (events_in chip) r (events ++ load_of place value ∷ []) q ne))

  pub agrees_then : AgreesThen chip r events place value
  agrees_then = record {
    memory = saw.step.memory;
    agree = subst (λ (l : ℕ → List Event). Agrees (about_in chip) saw.step.memory (records_by (about_in chip) l)) (λ i q. same_lists q i) saw.step.after.agree;
    word = saw.step.step;
  }

  pub agrees_now : record_of (about_in chip) r (events_in chip r) ≡ record_of (about_in chip) r (events ++ load_of place value ∷ []) → AgreesNow chip place value
  agrees_now own =
      let there = agrees_then in record {
        memory = there.memory;
        agree = subst (λ (x : ℕ → Record). Agrees (about_in chip) there.memory x) (λ i q. same_record q i) there.agree;
        word = there.word;
      }
    where
      same_record : (q : ℕ) → records_by (about_in chip) then_lists q ≡ records_in chip q
      same_record q = same_or_other (records_by (about_in chip) then_lists q ≡ records_in chip q) q r
          (λ t is. subst (λ k. records_by (about_in chip) then_lists k ≡ records_in chip k) (sym is)
          (ap (λ (l : List Event). record_of (about_in chip) r l) (put_here (events_in chip) r (events ++ load_of place value ∷ [])) ∙ sym own))
          (λ t ne. ap (λ (l : List Event). record_of (about_in chip) q l) (put_there (events_in chip) r (events ++ load_of place value ∷ []) q ne))
