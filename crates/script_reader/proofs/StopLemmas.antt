-- If a step of a reading stops, the reading stops.
use Rattle.std.proofs.Common.{◌≡◌, ap, Result, Ok, Err, IsErr, IfOk, IsErrAnd, OnOk, subst, sym}
use Rattle.script_rules.specs.declared.fault.FaultKind.{FaultKind}
use Rattle.script_reader.specs.declared.fault.LineStop.{LineStop}
use Rattle.script_reader.specs.declared.fault.LineStop.TheVariants as line_stop
use Rattle.script_reader.specs.declared.fault.ReadFault.{ReadFault}
use Rattle.script_reader.specs.declared.fault.ReadStop.{ReadStop}
use Rattle.script_reader.specs.declared.fault.ReadStop.TheVariants as stop
use Rattle.script_reader.specs.Faults.{◌>>=◌, Gives, LineGives}

-- a fault has the same kind whatever would be read next, and out of memory states nothing
pub stopped : {A B Y : Type 0} (seen : Y → B) (stop : LineStop) (meant : Result A FaultKind) (next : A → Result B FaultKind)
    → LineGives (λ (x : A). x) (Err stop) meant → LineGives seen (Err stop) (meant >>= next)
stopped seen (line_stop.Kind kind) meant next gives = ap (λ (r : Result _ FaultKind). r >>= next) gives
stopped seen line_stop.Memory meant next gives = tt

-- where the reading hands on why the step stopped
pub stops : {A B Y : Type 0} (seen : Y → B) (stop : LineStop) (r : Result Y LineStop) (meant : Result A FaultKind) (next : A → Result B FaultKind)
    → IsErrAnd r (λ e. e ≡ stop) → LineGives (λ (x : A). x) (Err stop) meant → LineGives seen r (meant >>= next)
stops seen stop (Ok x) meant next is gives = absurd is
stops seen stop (Err e) meant next is gives = subst (λ (s : LineStop). LineGives seen (Err s) (meant >>= next)) (sym is) (stopped seen stop meant next gives)

-- where no memory is left, nothing is said
pub starved : {B Y : Type 0} (seen : Y → B) (r : Result Y LineStop) (meant : Result B FaultKind) → IsErrAnd r (λ e. e ≡ line_stop.Memory) → LineGives seen r meant
starved seen (Ok x) meant is = absurd is
starved seen (Err e) meant is = subst (λ (s : LineStop). LineGives seen (Err s) meant) (sym is) tt

-- where nothing is given, nothing is kept
pub none-kept : {Y E : Type 0} (r : Result Y E) (kept : Type 0) → IsErr r → OnOk r kept
none-kept (Ok x) kept is = absurd (cc)
none-kept (Err e) kept is = tt

-- nor is anything given
pub none-given : {Y E : Type 0} (r : Result Y E) (given : Y → Type 0) → IsErr r → IfOk r given
none-given (Ok x) given is = absurd (cc)
none-given (Err e) given is = tt

-- where the step has a fault, the line has it
pub faulted : {A B Y : Type 0} (seen : Y → B) (r : Result Y LineStop) (kind : FaultKind) (meant : Result A FaultKind) (next : A → Result B FaultKind)
    → IsErrAnd r (λ e. e ≡ line_stop.Kind kind) → Err kind ≡ meant → LineGives seen r (meant >>= next)
faulted seen (Ok x) kind meant next is gives = absurd is
faulted seen (Err e) kind meant next is gives =
    subst (λ (s : LineStop). LineGives seen (Err s) (meant >>= next)) (sym is) (sym (ap (λ (r : Result _ FaultKind). r >>= next) gives))

-- a file, where the reading of its lines stops
pub file-stopped : {A B Y : Type 0} (seen : Y → B) (why : ReadStop) (meant : Result A ReadFault) (next : A → Result B ReadFault)
    → Gives (λ (x : A). x) (Err why) meant → Gives seen (Err why) (meant >>= next)
file-stopped seen (stop.Fault fault) meant next gives = ap (λ (r : Result _ ReadFault). r >>= next) gives
file-stopped seen stop.Memory meant next gives = tt

pub file-stops : {A B Y : Type 0} (seen : Y → B) (why : ReadStop) (r : Result Y ReadStop) (meant : Result A ReadFault) (next : A → Result B ReadFault)
    → IsErrAnd r (λ e. e ≡ why) → Gives (λ (x : A). x) (Err why) meant → Gives seen r (meant >>= next)
file-stops seen why (Ok x) meant next is gives = absurd is
file-stops seen why (Err e) meant next is gives = subst (λ (s : ReadStop). Gives seen (Err s) (meant >>= next)) (sym is) (file-stopped seen why meant next gives)

pub file-starved : {B Y : Type 0} (seen : Y → B) (r : Result Y ReadStop) (meant : Result B ReadFault) → IsErrAnd r (λ e. e ≡ stop.Memory) → Gives seen r meant
file-starved seen (Ok x) meant is = absurd is
file-starved seen (Err e) meant is = subst (λ (s : ReadStop). Gives seen (Err s) meant) (sym is) tt
