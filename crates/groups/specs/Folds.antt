-- The fold of lists of values (RCCE specification 2.0: the operations and types of RCCE_reduce; that sums and
-- products wrap, and the bytes of a value, are this project's profile).
use Rattle.std.specs.Prelude.{◌≡◌, ℕ, ◌*◌, ◌/◌, ◌%◌, ℤ, ◌+ℤ◌, ◌*ℤ◌, List, [], ◌∷◌, length, take, drop}
use Rattle.std.specs.List.{flat_map, range_with_len}
use Rattle.std.specs.Int.{Width, w32, w64, cast_signed, cast_unsigned, from_le_bytes, to_le_bytes, int_min, int_max, int_wrap}
use Rattle.groups.specs.declared.operations.Op.{Op}
use Rattle.groups.specs.declared.operations.Op.TheVariants.{Sum, Min, Max, Prod}
use Rattle.groups.specs.declared.operations.Ty.{Ty}
use Rattle.groups.specs.declared.operations.Ty.TheVariants.{Int, Long}

-- the bits of a type, and the bytes of one value
abbrev pub width_of : Ty → Width
width_of Int = w32
width_of Long = w64

-- how many bytes a value of a type has
abbrev pub bytes_in : Ty → ℕ
bytes_in Int = 4
bytes_in Long = 8

-- the value of its bytes, and the bytes of a value: little-endian two's complement
abbrev pub value_of : Ty → List ℕ → ℤ
value_of ty bytes = cast_signed (width_of ty) (from_le_bytes (width_of ty) bytes)

-- a value of a type as its bytes, the lowest first
abbrev pub bytes_of_value : Ty → ℤ → List ℕ
bytes_of_value ty value = to_le_bytes (width_of ty) (cast_unsigned (width_of ty) value)

-- a op b: sum and product modulo the type's range, least and greatest of the signed values
abbrev pub combine : Op → Ty → ℤ → ℤ → ℤ
combine Sum ty a b = int_wrap (width_of ty) (a +ℤ b)
combine Min ty a b = int_min a b
combine Max ty a b = int_max a b
combine Prod ty a b = int_wrap (width_of ty) (a *ℤ b)

-- the i-th value of a list of bytes
abbrev pub typed_value_at : Ty → List ℕ → ℕ → ℤ
typed_value_at ty bytes i = value_of ty (take (bytes_in ty) (drop (i * bytes_in ty) bytes))

-- the bytes of the first n values of two lists, combined one by one
abbrev pub fold_first : Op → Ty → ℕ → List ℕ → List ℕ → List ℕ
fold_first op ty n acc more =
    flat_map (λ i. bytes_of_value ty (combine op ty (typed_value_at ty acc i) (typed_value_at ty more i))) (range_with_len 0 n)

-- acc op more, value by value
abbrev pub fold_values : Op → Ty → List ℕ → List ℕ → List ℕ
fold_values op ty acc more = fold_first op ty (length acc / bytes_in ty) acc more

-- lists in order, each combined with what stands: first op a op b ..
abbrev pub fold_of : Op → Ty → List ℕ → List (List ℕ) → List ℕ
fold_of op ty first [] = first
fold_of op ty first (more ∷ rest) = fold_of op ty (fold_values op ty first more) rest

-- two lists of bytes can be folded: they are equally long, and whole values
pub record CanFold (ty : Ty) (acc more : List ℕ) : Type 0 where
  pub same : length acc ≡ length more
  pub whole : length acc % bytes_in ty ≡ 0
