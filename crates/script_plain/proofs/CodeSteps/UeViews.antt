-- A rank as it is seen, and its machine: they have one next step, and past it the registers keep their lengths.
use Rattle.std.proofs.Common.{◌≡◌, true, subst, sym}
use Rattle.plain_meaning.specs.Kept.{Fits, reckoned_at}
use Rattle.script_machine.specs.Local.{Local, local_next}
use Rattle.script_machine.specs.Machine.{MachineView}
use Rattle.script_machine.specs.Moves.{is_passable, after_pass}
use Rattle.script_machine.specs.Next.{Next}
use Rattle.script_plain.proofs.CodeSteps.UeLaws.{fits_passed}
use Rattle.plain_meaning.proofs.ProgramLengths.LengthPaths.{fits_next}

-- what is so of the next step of what is shown is so of what the machine holds, and the other way round
pub of_shown : (u shown : Local) (same : u ≡ shown) (Is : Next Local → Type 0) → Is (local_next shown) → Is (local_next u)
of_shown u shown same Is so = subst (λ (x : Local). Is (local_next x)) (sym same) so

pub to_shown : (u shown : Local) (same : u ≡ shown) (Is : Next Local → Type 0) → Is (local_next u) → Is (local_next shown)
to_shown u shown same Is so = subst (λ (x : Local). Is (local_next x)) same so

-- a machine that comes to hold something else has the lengths that this has
pub fits_after : (m new : MachineView) (u : Local) → new ≡ record m { local = u } → Fits (reckoned_at m.script m.rank) u → Fits (reckoned_at new.script new.rank) new.local
fits_after m new u is fits = subst (λ (v : MachineView). Fits (reckoned_at v.script v.rank) v.local) (sym is) fits

-- so it is where the machine goes past its next step
pub passed_fits : (m new : MachineView) → Fits (reckoned_at m.script m.rank) m.local → is_passable (local_next m.local) ≡ true → new ≡ record m { local = after_pass (local_next m.local) m.local } → Fits (reckoned_at new.script new.rank) new.local
passed_fits m new fits passable is =
    let had = reckoned_at m.script m.rank in
    let n = local_next m.local in
    fits_after m new (after_pass n m.local) is (fits_passed had n m.local (fits_next had m.local fits) passable)
