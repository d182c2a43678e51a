-- A printed register.
use Rattle.std.specs.Prelude.{ℕ, List}
use Rattle.script_rules.specs.declared.script.Form.{Form}

-- which register was printed, in which form, and its bytes
pub record Printed : Type 0 where
  pub reg : ℕ
  pub form : Form
  pub bytes : List ℕ
