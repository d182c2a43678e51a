-- How the printed line of an access is represented.
use Rattle.std.specs.Prelude.{ℕ, if◌then◌else◌, List, []}
use Rattle.lab_plain.specs.declared.accesses.Access.{Access}
use Rattle.lab_plain.specs.Texts.{access_text}

-- the printed line of an access to a word, if it is made; nothing if not
abbrev pub access_line : Access → List ℕ
access_line a = if a.made then access_text a.core a.access.now a.at a.value else []
