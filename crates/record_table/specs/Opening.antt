-- The opening of a record of a whole table: docs/RULES.md, "The record of a whole table".
use Rattle.std.specs.Prelude.{List, [], ◌∷◌, ℕ}

-- The five bytes that every record of layout 2 opens with.
abbrev pub table_opening : List ℕ
table_opening = 1 ∷ 0 ∷ 2 ∷ 0 ∷ 2 ∷ []
