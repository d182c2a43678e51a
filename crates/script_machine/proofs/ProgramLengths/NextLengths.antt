-- The lengths of what a rank holds are known of its program: those behind a primitive are what the primitive brings.
use Rattle.std.proofs.Common.{◌≡◌, ℕ, zero, suc, ◌+◌, ◌%◌, ◌==◌, ◌&&◌, Bool, true, false, cond, List, [], ◌∷◌, ◌++◌, map, length, replicate, slice_index_or, slice_set, Some, None, refl, sym, ap, ◌∙◌, arith}
use Rattle.std.proofs.lemmas.Bool.{eqb-true}
use Rattle.std.proofs.lemmas.List.{length-append, map-set}
use Rattle.std.proofs.lemmas.List.Sums.{sum_by-append}
use Rattle.script_rules.specs.declared.script.OwnStmt.{OwnStmt}
use Rattle.script_rules.specs.declared.script.OwnStmt.TheVariants as own
use Rattle.script_machine.specs.Printed.{Printed}
use Rattle.groups.specs.Folds.{bytes_in, fold_values}
use Rattle.groups.specs.declared.operations.Op.{Op}
use Rattle.groups.specs.declared.operations.Ty.{Ty}
use Rattle.groups.proofs.FoldLemmas.{fold_length}
use Rattle.script_machine.specs.Lengths.{lengths_after, lengths_of, printed_bytes}
use Rattle.script_machine.specs.Local.{Local, fold_if_fits, next_by_act, own_registers, register_at}
use Rattle.script_machine.specs.Moves.{length_asked}
use Rattle.script_machine.specs.Next.{Next}
use Rattle.script_machine.specs.Next.Next.{Ends, Goes, Posts, Sends, Recvs, Bars}
use Rattle.script_machine.specs.Program.{Act}
use Rattle.script_machine.specs.Program.Act.{Set, Own, Send, Post, Recv, Gather, Bar, Begin, Fold, Accept, Finish}
use Rattle.script_machine.proofs.Choices as choices

-- a fold is as long as what it is folded into
pub folded_length : (op : Op) (ty : Ty) (acc more : List ℕ) → length (fold_if_fits op ty acc more) ≡ length acc
folded_length op ty acc more = by ((length acc == length more) && (length acc % bytes_in ty == 0)) refl
  where
    by : (b : Bool) → ((length acc == length more) && (length acc % bytes_in ty == 0)) ≡ b → length (cond b (fold_values op ty acc more) acc) ≡ length acc
    by true is =
        let parts = choices.both_true (length acc == length more) (length acc % bytes_in ty == 0) is in
        fold_length op ty acc more (record { same = eqb-true (length acc) (length more) parts.0; whole = eqb-true (length acc % bytes_in ty) 0 parts.1 })
    by false is = refl

-- the lengths of registers
pub length_index : (registers : List (List ℕ)) (reg : ℕ) → length (slice_index_or registers reg []) ≡ slice_index_or (map length registers) reg 0
length_index [] reg = refl
length_index (x ∷ registers) zero = refl
length_index (x ∷ registers) (suc reg) = length_index registers reg

length_kept : (registers : List (List ℕ)) (reg : ℕ) (bytes : List ℕ) → length bytes ≡ length (slice_index_or registers reg []) → map length (slice_set registers reg bytes) ≡ map length registers
length_kept [] reg bytes same = refl
length_kept (x ∷ registers) zero bytes same = ap (λ (n : ℕ). n ∷ map length registers) same
length_kept (x ∷ registers) (suc reg) bytes same = ap (λ (l : List ℕ). length x ∷ l) (length_kept registers reg bytes same)

pub length_put : (registers : List (List ℕ)) (reg n : ℕ) (bytes : List ℕ) → length bytes ≡ n → map length (slice_set registers reg bytes) ≡ slice_set (map length registers) reg n
length_put registers reg n bytes same = map-set length registers reg bytes ∙ ap (slice_set (map length registers) reg) same

-- registers of the same lengths
pub length_same : (u v : Local) → (lengths_of v).registers ≡ (lengths_of u).registers → (reg : ℕ) → length (register_at v reg) ≡ length (register_at u reg)
length_same u v same reg = length_index v.registers reg ∙ ap (λ (l : List ℕ). slice_index_or l reg 0) same ∙ sym (length_index u.registers reg)

-- a statement of the rank's own leaves each register as long as it is
pub own_even : (u : Local) (o : OwnStmt) → map length (own_registers u o) ≡ map length u.registers
own_even u (own.Apply op ty dst src) = length_kept u.registers dst (fold_if_fits op ty (register_at u dst) (register_at u src)) (folded_length op ty (register_at u dst) (register_at u src))
own_even u (own.Print reg form) = refl

pub lengths_unset : (count : ℕ) (empty : List ℕ) → length empty ≡ 0 → map length (replicate count empty) ≡ replicate count 0
lengths_unset zero empty none = refl
lengths_unset (suc count) empty none = λ i. none i ∷ lengths_unset count empty none i

pub printed_more : (items : List Printed) (item : Printed) → printed_bytes (items ++ item ∷ []) ≡ printed_bytes items + length item.bytes
printed_more items item = sum_by-append (λ (item : Printed). length item.bytes) items (item ∷ []) ∙ omega arith

-- the state after what stands next: where it is a receive, with these bytes
abbrev pub after : Next Local → List ℕ → Local → Local
after Ends bytes u = u
after (Goes next) bytes u = next
after (Posts message next) bytes u = next
after (Sends to head sent next) bytes u = next
after (Recvs from head take refuse) bytes u = take bytes
after (Bars comm next) bytes u = next

-- the lengths after a primitive are those that it brings
pub lengths_next : (u : Local) (line : ℕ) (act : Act) (bytes : List ℕ) → length bytes ≡ length_asked (next_by_act u line act) → lengths_of (after (next_by_act u line act) bytes u) ≡ lengths_after (lengths_of u) act
lengths_next u line (Set reg content) bytes same = ap (λ (l : List ℕ). record (lengths_of u) { registers = l }) (length_put u.registers reg (length content) content refl)
lengths_next u line (Own (own.Apply op ty dst src)) bytes same = ap (λ (l : List ℕ). record (lengths_of u) { registers = l }) (own_even u (own.Apply op ty dst src))
lengths_next u line (Own (own.Print reg form)) bytes same =
    let item : Printed = record { reg = reg; form = form; bytes = register_at u reg } in
    let items = length-append u.printed (item ∷ []) in
    let printed = printed_more u.printed item ∙ ap (λ (n : ℕ). printed_bytes u.printed + n) (length_index u.registers reg) in
    λ i. record (lengths_of u) { items = items i; printed = printed i }
lengths_next u line (Send to head source) bytes same = refl
lengths_next u line (Post to reg) bytes same = refl
lengths_next u line (Recv from reg head) bytes same = ap (λ (l : List ℕ). record (lengths_of u) { registers = l }) (length_put u.registers reg head.len bytes same)
lengths_next u line (Gather from head None) bytes same = ap (λ (n : ℕ). record (lengths_of u) { received = n }) same
lengths_next u line (Gather from head (Some reg)) bytes same = ap (λ (n : ℕ). record (lengths_of u) { received = n }) (same ∙ length_index u.registers reg)
lengths_next u line (Bar comm) bytes same = refl
lengths_next u line (Begin reg) bytes same = ap (λ (n : ℕ). record (lengths_of u) { accumulator = n }) (length_index u.registers reg)
lengths_next u line (Fold op ty) bytes same = ap (λ (n : ℕ). record (lengths_of u) { accumulator = n }) (folded_length op ty u.accumulator u.received)
lengths_next u line (Accept reg) bytes same = ap (λ (l : List ℕ). record (lengths_of u) { registers = l }) (length_put u.registers reg (length u.received) u.received refl)
lengths_next u line (Finish reg) bytes same = ap (λ (l : List ℕ). record (lengths_of u) { registers = l }) (length_put u.registers reg (length u.accumulator) u.accumulator refl)
