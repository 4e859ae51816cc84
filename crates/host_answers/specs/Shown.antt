-- What a call promises to C, over what it promises by itself.
use Rattle.std.specs.Prelude.{◌≡◌}

-- What a call promises to C: C's form of what the table's own call may answer, by its claim, which has one outcome.
pub record ShownToC {D A : Type 0} (form : D → A) (claim : D → Type 0) (a : A) : Type 0 where
  pub said : D
  pub claimed : claim said
  pub answer : a ≡ form said
