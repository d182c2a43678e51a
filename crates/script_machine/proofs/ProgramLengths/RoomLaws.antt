-- Laws of rooms: what a program brings fits, primitive by primitive, where the dry walk over the lengths said so.
use Rattle.std.proofs.Common.{◌≡◌, ℕ, zero, suc, ◌+◌, ◌-◌, ◌<◌, ◌≤◌, Bool, true, false, cond, nat_lt, List, [], ◌∷◌, ◌++◌, Bor, map, length, drop, take, get_or, set, replicate, slice_get, slice_index_or, slice_set, Option, Some, None, refl, sym, ap, subst, ◌∙◌, arith}
use Rattle.std.proofs.Math.Seq.{drop-append_seam, map-set_same, take-length}
use Rattle.std.proofs.lemmas.Bool.{ltb-false, ltb-true}
use Rattle.std.proofs.lemmas.List.{drop-append-le, length-drop, length-map, length-replicate, length-take-le, map-append, map-set, take-append-le, take_all}
use Rattle.std.proofs.lemmas.Option.{slice_get-map, slice_get_read}
use Rattle.std.specs.Option.{option_map}
use Rattle.script_machine.specs.declared.prims.Action.{Action}
use Rattle.script_machine.specs.declared.prims.Primitive.{Primitive}
use Rattle.script_machine.specs.Printed.{Printed}
use Rattle.script_machine.specs.declared.prims.Standing.{Standing}
use Rattle.script_machine.specs.declared.prims.Standing.TheVariants as standing
use Rattle.script_machine.specs.declared.prints.Entry.{Entry}
use Rattle.script_rules.specs.Script.{Script}
use Rattle.scc_base.specs.Heads.{MessageHead}
use Rattle.script_machine.specs.Lengths.{Lengths, length_of_register, lengths_after, lengths_of, with_register}
use Rattle.script_machine.specs.Local.{Local, local_next, local_start, next_by_act, next_by_prim, next_prim, prim_by_standing}
use Rattle.script_machine.specs.Moves.{length_asked}
use Rattle.script_machine.specs.Program.{Prim}
use Rattle.script_machine.specs.Program.Act.{Gather}
use Rattle.script_machine.specs.Rooms.{AreBelow, AreCut, AreWithin, IsWider, IsWithin, RoomView, Rooms, printed_of_entry, greater, nothing_held, spare_length}
use Rattle.script_machine.specs.Walk.{act_meant, prim_meant}
use Rattle.script_machine.proofs.ProgramLengths.NextLengths.{after, lengths_next, lengths_unset}

-- the greater one of two numbers
greater_by : (one other : ℕ) (b : Bool) → nat_lt one other ≡ b → (one ≤ cond b other one) × (other ≤ cond b other one)
greater_by one other true is = (omega (arith, ltb-true one other is), omega arith)
greater_by one other false is = (omega arith, omega (arith, ltb-false one other is))

pub greater_old : (one other : ℕ) → one ≤ greater one other
greater_old one other = (greater_by one other (nat_lt one other) refl).0

pub greater_new : (one other : ℕ) → other ≤ greater one other
greater_new one other = (greater_by one other (nat_lt one other) refl).1

-- lists one by one at most as great
pub below_same : (l : List ℕ) → AreBelow l l
below_same [] = tt
below_same (x ∷ l) = (omega arith, below_same l)

pub below_below : (l m n : List ℕ) → AreBelow l m → AreBelow m n → AreBelow l n
below_below [] [] n one two = two
below_below [] (y ∷ m) n one two = absurd one
below_below (x ∷ l) [] n one two = absurd one
below_below (x ∷ l) (y ∷ m) [] one two = absurd two
below_below (x ∷ l) (y ∷ m) (z ∷ n) one two = (omega (arith, one.0, two.0), below_below l m n one.1 two.1)

pub below_at : (l m : List ℕ) (i : ℕ) → AreBelow l m → slice_index_or l i 0 ≤ slice_index_or m i 0
below_at [] m i below = omega arith
below_at (x ∷ l) [] i below = absurd below
below_at (x ∷ l) (y ∷ m) zero below = below.0
below_at (x ∷ l) (y ∷ m) (suc i) below = below_at l m i below.1

-- what is put in fits its room
pub below_put : (l m : List ℕ) (i x : ℕ) → AreBelow (slice_set l i x) m → i < length m → x ≤ slice_index_or m i 0
below_put [] [] i x below there = absurd (omega (arith, there))
below_put [] (y ∷ m) i x below there = absurd below
below_put (w ∷ l) [] i x below there = absurd (omega (arith, there))
below_put (w ∷ l) (y ∷ m) zero x below there = below.0
below_put (w ∷ l) (y ∷ m) (suc i) x below there = below_put l m i x below.1 (omega (arith, there))

-- a room is made greater for what is put in
pub below_raised : (l m : List ℕ) (i x : ℕ) → AreBelow l m → AreBelow (slice_set l i x) (slice_set m i (greater (slice_index_or m i 0) x))
below_raised [] [] i x below = tt
below_raised [] (y ∷ m) i x below = absurd below
below_raised (w ∷ l) [] i x below = absurd below
below_raised (w ∷ l) (y ∷ m) zero x below = (greater_new y x, below.1)
below_raised (w ∷ l) (y ∷ m) (suc i) x below = (below.0, below_raised l m i x below.1)

pub below_more : (m : List ℕ) (i x : ℕ) → AreBelow m (slice_set m i (greater (slice_index_or m i 0) x))
below_more [] i x = tt
below_more (y ∷ m) zero x = (greater_old y x, below_same m)
below_more (y ∷ m) (suc i) x = (omega arith, below_more m i x)

pub below_length : (l m : List ℕ) → AreBelow l m → length l ≡ length m
below_length [] [] below = refl
below_length [] (y ∷ m) below = absurd below
below_length (x ∷ l) [] below = absurd below
below_length (x ∷ l) (y ∷ m) below = ap suc (below_length l m below.1)

pub within_same : (l : Lengths) → IsWithin l l
within_same l =
    record {
      registers = below_same l.registers;
      accumulator = omega arith;
      received = omega arith;
      items = omega arith;
      printed = omega arith;
    }

pub within_within : (l m n : Lengths) → IsWithin l m → IsWithin m n → IsWithin l n
within_within l m n one two =
    record {
      registers = below_below l.registers m.registers n.registers one.registers two.registers;
      accumulator = omega (arith, one.accumulator, two.accumulator);
      received = omega (arith, one.received, two.received);
      items = omega (arith, one.items, two.items);
      printed = omega (arith, one.printed, two.printed);
    }

pub wider_same : (room : Rooms) → IsWider room room
wider_same room = record { lengths = within_same room.lengths; spare = omega arith }

pub wider_wider : (one two three : Rooms) → IsWider one two → IsWider two three → IsWider one three
wider_wider one two three first second =
    record {
      lengths = within_within one.lengths two.lengths three.lengths first.lengths second.lengths;
      spare = omega (arith, first.spare, second.spare);
    }

-- a register is reckoned with, and its room
pub raised_within : (l m : Lengths) (reg len : ℕ) → IsWithin l m → IsWithin (with_register l reg len) (with_register m reg (greater (length_of_register m reg) len))
raised_within l m reg len within =
    record {
      registers = below_raised l.registers m.registers reg len within.registers;
      accumulator = within.accumulator;
      received = within.received;
      items = within.items;
      printed = within.printed;
    }

pub raised_wider : (m : Lengths) (spare reg len : ℕ) → IsWider (record { lengths = m; spare = spare }) (record { lengths = with_register m reg (greater (length_of_register m reg) len); spare = spare })
raised_wider m spare reg len =
    record {
      lengths = record {
        registers = below_more m.registers reg len;
        accumulator = omega arith;
        received = omega arith;
        items = omega arith;
        printed = omega arith;
      };
      spare = omega arith;
    }

pub more_within : (m : Lengths) (acc got items printed : ℕ)
    → IsWithin m (record m { accumulator = greater m.accumulator acc }) × (IsWithin m (record m { received = greater m.received got }) × IsWithin m (record m { items = greater m.items items; printed = greater m.printed printed }))
more_within m acc got items printed = (
  record { registers = below_same m.registers; accumulator = greater_old m.accumulator acc; received = omega arith; items = omega arith; printed = omega arith },
  (
    record { registers = below_same m.registers; accumulator = omega arith; received = greater_old m.received got; items = omega arith; printed = omega arith },
    record { registers = below_same m.registers; accumulator = omega arith; received = omega arith; items = greater_old m.items items; printed = greater_old m.printed printed },
  ),
)

-- lengths and rooms that are these
pub within_by : (l m l2 m2 : Lengths) → l2 ≡ l → m2 ≡ m → IsWithin l m → IsWithin l2 m2
within_by l m l2 m2 first second within =
    let P : Lengths → Type 0 = λ x. IsWithin x m2 in
    let Q : Lengths → Type 0 = λ x. IsWithin l x in
    subst P (sym first) (subst Q (sym second) within)

pub wider_by : (old new : Rooms) (m : Lengths) (spare : ℕ) → old ≡ new → new.spare ≤ spare → IsWithin new.lengths m → IsWider old (record { lengths = m; spare = spare })
wider_by old new m spare same more within =
    let P : Rooms → Type 0 = λ x. IsWider x (record { lengths = m; spare = spare }) in
    subst P (sym same) (record { lengths = within; spare = more })

pub held_by : (room room2 : Rooms) (l l2 : Lengths) (prims prims2 : List Prim) → room2 ≡ room → l2 ≡ l → prims2 ≡ prims → AreWithin room l prims → AreWithin room2 l2 prims2
held_by room room2 l l2 prims prims2 first second third within =
    let P : Rooms → Type 0 = λ x. AreWithin x l2 prims2 in
    let Q : Lengths → Type 0 = λ x. AreWithin room x prims2 in
    let R : List Prim → Type 0 = λ x. AreWithin room l x in
    subst P (sym first) (subst Q (sym second) (subst R (sym third) within))

-- at a point of a program the rooms hold what is there, and go on to
pub within_now : (room : Rooms) (l : Lengths) (prims : List Prim) → AreWithin room l prims → IsWithin l room.lengths
within_now room l [] within = within
within_now room l (prim ∷ prims) within = within.0

pub within_next : (room : Rooms) (l : Lengths) (prims : List Prim) (prim : Prim) → slice_get prims 0 ≡ Some prim → AreWithin room l prims
    → (spare_length l prim.act ≤ room.spare) × AreWithin room (lengths_after l prim.act) (drop 1 prims)
within_next room l [] prim here within = absurd (cc)
within_next room l (x ∷ prims) prim here within =
    let same : x ≡ prim = cc in
    let P : Prim → Type 0 = λ p. (spare_length l p.act ≤ room.spare) × AreWithin room (lengths_after l p.act) prims in
    subst P same within.1

-- and before it, where they hold what it brings
pub within_before : (room : Rooms) (l : Lengths) (prims : List Prim) (prim : Prim) → slice_get prims 0 ≡ Some prim → IsWithin l room.lengths → spare_length l prim.act ≤ room.spare
    → AreWithin room (lengths_after l prim.act) (drop 1 prims) → AreWithin room l prims
within_before room l [] prim here now spare next = absurd (cc)
within_before room l (x ∷ prims) prim here now spare next =
    let same : prim ≡ x = cc in
    let P : Prim → Type 0 = λ p. (spare_length l p.act ≤ room.spare) × AreWithin room (lengths_after l p.act) prims in
    (now, subst P same (spare, next))

pub within_end : (room : Rooms) (l : Lengths) (prims : List Prim) → slice_get prims 0 ≡ None → IsWithin l room.lengths → AreWithin room l prims
within_end room l [] none now = now
within_end room l (x ∷ prims) none now = absurd (cc)

-- nothing is found where nothing is left
pub none_found : (found : Option (Bor Primitive)) (left : Option Prim) → option_map (λ p. prim_meant p.now) found ≡ left → ((p : Bor Primitive) → found ≡ Some p → ⊥) → left ≡ None
none_found None left is none = sym is
none_found (Some p) left is none = absurd (none p refl)

-- a register in its room is written
pub room_put : (rooms : List RoomView) (reg : ℕ) (old new : RoomView) (bytes : List ℕ) → new ≡ record { bytes = bytes; room = old.room } → old ≡ get_or rooms reg old
    → (map (λ (r : RoomView). r.bytes) (set rooms reg new) ≡ set (map (λ (r : RoomView). r.bytes) rooms) reg bytes)
    × (map (λ (r : RoomView). r.room) (set rooms reg new) ≡ map (λ (r : RoomView). r.room) rooms)
room_put rooms reg old new bytes is read = (
  map-set (λ (r : RoomView). r.bytes) rooms reg new ∙ ap (λ (r : RoomView). set (map (λ (r : RoomView). r.bytes) rooms) reg r.bytes) is,
  map-set_same (λ (r : RoomView). r.room) rooms reg new old (ap (λ (r : RoomView). r.room) is ∙ ap (λ (r : RoomView). r.room) read),
)

-- by what it held
pub room_fold : (change : List ℕ → List ℕ) (rooms : List RoomView) (reg : ℕ) (old : RoomView) → old ≡ get_or rooms reg old
    → set (map (λ (r : RoomView). r.bytes) rooms) reg (change old.bytes) ≡ set (map (λ (r : RoomView). r.bytes) rooms) reg (change (get_or (map (λ (r : RoomView). r.bytes) rooms) reg []))
room_fold change [] reg old read = refl
room_fold change (r ∷ rooms) zero old read = ap (λ (x : RoomView). change x.bytes ∷ map (λ (r : RoomView). r.bytes) rooms) read
room_fold change (r ∷ rooms) (suc reg) old read = ap (λ (l : List (List ℕ)). r.bytes ∷ l) (room_fold change rooms reg old read)

-- a rank that stands at a primitive is running, and has it left
standing_by : (standing : Standing) (left : List Prim) (prim : Prim) → prim_by_standing standing left ≡ Some prim → slice_get left 0 ≡ Some prim
standing_by standing.Running left prim is = is
standing_by (standing.Mismatched line from sent asked) left prim is = absurd (cc)

pub prim_left : (u : Local) (prim : Prim) → next_prim u ≡ Some prim → slice_get u.left 0 ≡ Some prim
prim_left u prim is = standing_by u.standing u.left prim is

-- so the rooms hold what a rank comes to
pub rooms_next : (room : Rooms) (u : Local) (prim : Prim) (bytes : List ℕ) → next_prim u ≡ Some prim → length bytes ≡ length_asked (next_by_act u prim.line prim.act) → AreWithin room (lengths_of u) u.left
    → AreWithin room (lengths_of (after (next_by_act u prim.line prim.act) bytes u)) (drop 1 u.left)
rooms_next room u prim bytes here same within =
    let P : Lengths → Type 0 = λ l. AreWithin room l (drop 1 u.left) in
    subst P (sym (lengths_next u prim.line prim.act bytes same)) (within_next room (lengths_of u) u.left prim (prim_left u prim here) within).1

-- what a primitive brings, at once
pub fits_next : (room : Rooms) (u : Local) (prim : Prim) → next_prim u ≡ Some prim → AreWithin room (lengths_of u) u.left
    → (spare_length (lengths_of u) prim.act ≤ room.spare) × IsWithin (lengths_after (lengths_of u) prim.act) room.lengths
fits_next room u prim here within =
    let next = within_next room (lengths_of u) u.left prim (prim_left u prim here) within in
    (next.0, within_now room (lengths_after (lengths_of u) prim.act) (drop 1 u.left) next.1)

-- a rank at its start holds nothing
pub start_held : (script : Script) (rank : ℕ) → lengths_of (local_start script rank) ≡ nothing_held (length script.names)
start_held script rank = ap (λ (l : List ℕ). record (nothing_held (length script.names)) { registers = l }) (lengths_unset (length script.names) [] refl)

-- printed items stay as they are when bytes come behind theirs
pub cut_same : (bytes more : List ℕ) (table : List Entry) → AreCut (length bytes) table → map (printed_of_entry (bytes ++ more)) table ≡ map (printed_of_entry bytes) table
cut_same bytes more [] within = refl
cut_same bytes more (entry ∷ table) within =
    let front : take entry.len (drop entry.start (bytes ++ more)) ≡ take entry.len (drop entry.start bytes) =
    ap (take entry.len) (drop-append-le entry.start bytes more (omega (arith, within.0)))
    ∙ take-append-le entry.len (drop entry.start bytes) more (omega (arith, within.0, length-drop entry.start bytes)) in
    (λ i. record { reg = entry.reg; form = entry.form; bytes = front i } ∷ cut_same bytes more table within.1 i)

pub cut_more : (room more : ℕ) (table : List Entry) → room ≤ more → AreCut room table → AreCut more table
cut_more room more [] wider within = tt
cut_more room more (entry ∷ table) wider within = (omega (arith, wider, within.0), cut_more room more table wider within.1)

pub cut_push : (room : ℕ) (table : List Entry) (entry : Entry) → AreCut room table → entry.start + entry.len ≤ room → AreCut room (table ++ entry ∷ [])
cut_push room [] entry within last = (last, tt)
cut_push room (x ∷ table) entry within last = (within.0, cut_push room table entry within.1 last)

-- the item that is printed last
pub cut_last : (bytes more : List ℕ) (table : List Entry) (entry : Entry) → AreCut (length bytes) table → entry.start ≡ length bytes → entry.len ≡ length more
    → map (printed_of_entry (bytes ++ more)) (table ++ entry ∷ []) ≡ map (printed_of_entry bytes) table ++ record { reg = entry.reg; form = entry.form; bytes = more } ∷ []
cut_last bytes more table entry within start len =
    let last : take entry.len (drop entry.start (bytes ++ more)) ≡ more =
    ap (λ (n : ℕ). take entry.len (drop n (bytes ++ more))) start ∙ ap (take entry.len) (drop-append_seam bytes more) ∙ ap (λ (n : ℕ). take n more) len ∙ take-length more in
    map-append (printed_of_entry (bytes ++ more)) table (entry ∷ [])
    ∙ (λ i. cut_same bytes more table within i ++ record { reg = entry.reg; form = entry.form; bytes = last i } ∷ [])

-- where an item stands, its bytes are within the printed ones
pub cut_at : (room : ℕ) (table : List Entry) (i : ℕ) (entry : Entry) → AreCut room table → slice_get table i ≡ Some entry → entry.start + entry.len ≤ room
cut_at room [] i entry within here = absurd (cc)
cut_at room (x ∷ table) zero entry within here =
    let same : x ≡ entry = cc in
    let P : Entry → Type 0 = λ e. e.start + e.len ≤ room in
    subst P same within.0
cut_at room (x ∷ table) (suc i) entry within here = cut_at room table i entry within.1 here

-- a piece of bytes
pub piece : (l : List ℕ) (start len : ℕ) → start + len ≤ length l
    → (take len (take (length l - start) (drop start l)) ≡ take len (drop start l)) × (len ≡ length (take len (take (length l - start) (drop start l))))
piece l start len within =
    let all : take (length l - start) (drop start l) ≡ drop start l = take_all (length l - start) (drop start l) (omega (arith, length-drop start l)) in
    (ap (take len) all, sym (ap (λ (m : List ℕ). length (take len m)) all ∙ length-take-le len (drop start l) (omega (arith, within, length-drop start l))))

-- an item that was printed
pub item_there : (bytes : List ℕ) (table : List Entry) (items : List Printed) (i : ℕ) (entry : Entry) → map (printed_of_entry bytes) table ≡ items → i < length items → AreCut (length bytes) table → entry ≡ slice_index_or table i entry
    → (slice_get items i ≡ Some (printed_of_entry bytes entry)) × (entry.start + entry.len ≤ length bytes)
item_there bytes table items i entry same within cuts read =
    let there : i < length table = omega (arith, within, ap length same, length-map table (printed_of_entry bytes)) in
    let here = slice_get_read table (length table) i entry refl there read in
    (ap (λ (l : List Printed). slice_get l i) (sym same) ∙ slice_get-map (printed_of_entry bytes) table i ∙ ap (option_map (printed_of_entry bytes)) here, cut_at (length bytes) table i entry cuts here)

-- the primitive at which the rank of a machine stands, which was lent and copied
pub prim_here : (m u : Local) (found : Option (Bor Primitive)) (lent : Bor Primitive) (prim : Primitive) (action : Action) → m ≡ u → option_map (λ p. prim_meant p.now) found ≡ next_prim m → found ≡ Some lent → prim ≡ lent.now → prim.action ≡ action
    → next_prim u ≡ Some (record { line = prim.line; act = act_meant action })
prim_here m u found lent prim action same meant is copied acts =
    ap next_prim (sym same) ∙ sym meant ∙ ap (option_map (λ (p : Bor Primitive). prim_meant p.now)) is ∙ ap (λ (p : Primitive). Some (prim_meant p)) (sym copied)
    ∙ ap (λ (a : Action). Some (record { line = prim.line; act = act_meant a })) acts

-- what a primitive puts into a register fits its room
pub put_fits : (room : Rooms) (u : Local) (prim : Prim) (reg n : ℕ) → next_prim u ≡ Some prim → lengths_after (lengths_of u) prim.act ≡ with_register (lengths_of u) reg n → AreWithin room (lengths_of u) u.left
    → reg < length room.lengths.registers → n ≤ slice_index_or room.lengths.registers reg 0
put_fits room u prim reg n here sets within there =
    let P : Lengths → Type 0 = λ l. AreBelow l.registers room.lengths.registers in
    below_put (map length u.registers) room.lengths.registers reg n (subst P sets (fits_next room u prim here within).1.registers) there

-- how many bytes the receive at which it stands asks for
pub asked_here : (m u : Local) (prim : Prim) (n : ℕ) → m ≡ u → next_prim u ≡ Some prim → n ≡ length_asked (local_next m) → n ≡ length_asked (next_by_act u prim.line prim.act)
unfolding local_next
asked_here m u prim n same here is = is ∙ ap (λ (x : Local). length_asked (local_next x)) same ∙ ap (λ (o : Option Prim). length_asked (next_by_prim u o)) here

-- and the buffer of received bytes has room for them
pub got_fits : (room : Rooms) (u : Local) (line from : ℕ) (head : MessageHead) (sized : Option ℕ) (bytes : List ℕ) → next_prim u ≡ Some (record { line = line; act = Gather from head sized })
    → length bytes ≡ length_asked (next_by_act u line (Gather from head sized)) → AreWithin room (lengths_of u) u.left → length bytes ≤ room.lengths.received
got_fits room u line from head sized bytes here same within =
    let fits = (fits_next room u (record { line = line; act = Gather from head sized }) here within).1.received in
    let long = ap (λ (l : Lengths). l.received) (lengths_next u line (Gather from head sized) bytes same) in
    omega (arith, fits, long)

-- there is a room for each register
pub register_count : (room : Rooms) (count : ℕ) (prims : List Prim) → AreWithin room (nothing_held count) prims → length room.lengths.registers ≡ count
register_count room count prims within =
    sym (below_length (replicate count 0) room.lengths.registers (within_now room (nothing_held count) prims within).registers) ∙ length-replicate count 0
