-- The opening of a record: docs/RULES.md, "The saved record".
use Rattle.std.specs.Prelude.{List, [], ◌∷◌, ℕ}

-- The five bytes that every record opens with.
abbrev pub opening : List ℕ
opening = 1 ∷ 0 ∷ 2 ∷ 0 ∷ 1 ∷ []
