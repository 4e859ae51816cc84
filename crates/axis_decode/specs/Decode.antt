-- The transition tables: docs/RULES.md, "A port sample", Decode.
use Rattle.std.specs.Prelude.{ℕ, ◌+◌, ◌*◌, ◌/◌, ◌%◌, Bool, true, false, cond, not, ◌&&◌, List, [], ◌∷◌, eqb, get_or, ℤ, pos, negsuc}
use Rattle.fields.specs.Field.{bit_of}
use Rattle.axis.specs.Kind.{X2, X4}
use Rattle.axis_decode.specs.declared.Move.{Move}
use Rattle.axis_decode.specs.declared.Move.TheVariants.{Still, Forward, Back, Double}

-- The code of two filtered levels is A + 2B.
abbrev pub code : Bool → Bool → ℕ
code a b = bit_of a + 2 * bit_of b

-- The entries' signs in the three tables below.
abbrev O : Move
O = Still

abbrev P : Move
P = Forward

abbrev M : Move
M = Back

abbrev E : Move
E = Double

-- The entries of x4: a line for each old code 0, 1, 2, 3, and in it the new codes 0, 1, 2, 3.
unfoldable pub x4 : List (List Move)
x4 =
    (O ∷ P ∷ M ∷ E ∷ []) ∷
    (M ∷ O ∷ E ∷ P ∷ []) ∷
    (P ∷ E ∷ O ∷ M ∷ []) ∷
    (E ∷ M ∷ P ∷ O ∷ []) ∷ []

-- The entries of x2.
unfoldable pub x2 : List (List Move)
x2 =
    (O ∷ P ∷ O ∷ E ∷ []) ∷
    (M ∷ O ∷ E ∷ O ∷ []) ∷
    (O ∷ E ∷ O ∷ M ∷ []) ∷
    (E ∷ O ∷ P ∷ O ∷ []) ∷ []

-- The entries of x1.
unfoldable pub x1 : List (List Move)
x1 =
    (O ∷ P ∷ O ∷ E ∷ []) ∷
    (M ∷ O ∷ E ∷ O ∷ []) ∷
    (O ∷ E ∷ O ∷ O ∷ []) ∷
    (E ∷ O ∷ O ∷ O ∷ []) ∷ []

-- The table of a sampled kind.
unfoldable pub table_of : ℕ → List (List Move)
table_of kind = cond (eqb kind X4) x4 (cond (eqb kind X2) x2 x1)

-- The entry of a table from an old code to a new one.
abbrev pub entry_in : List (List Move) → ℕ → ℕ → Move
entry_in rows old new = get_or (get_or rows old []) new O

-- The entry of a kind's step from an old code to a new one.
unfoldable pub entry : ℕ → ℕ → ℕ → Move
entry kind old new = entry_in (table_of kind) old new

-- The code after a code, going forward: 0, 1, 3, 2, 0.
unfoldable pub next_code : ℕ → ℕ
next_code c = get_or (1 ∷ 3 ∷ 0 ∷ 2 ∷ []) c 0

-- Whether two codes differ in both lines.
unfoldable pub opposite : ℕ → ℕ → Bool
opposite old new = not (eqb (old % 2) (new % 2)) && not (eqb (old / 2) (new / 2))

-- What an entry adds to the position.
unfoldable pub worth : Move → ℤ
worth Still = pos 0
worth Forward = pos 1
worth Back = negsuc 0
worth Double = pos 0

-- Whether an entry is a double step.
unfoldable pub is_e : Move → Bool
is_e Still = false
is_e Forward = false
is_e Back = false
is_e Double = true

-- Whether an entry is +.
unfoldable pub is_p : Move → Bool
is_p Still = false
is_p Forward = true
is_p Back = false
is_p Double = false

-- Whether an entry is -.
unfoldable pub is_m : Move → Bool
is_m Still = false
is_m Forward = false
is_m Back = true
is_m Double = false

-- An entry as the code's tables of signed numbers have it.
unfoldable pub mark : Move → ℤ
mark Still = pos 0
mark Forward = pos 1
mark Back = negsuc 0
mark Double = pos 2
