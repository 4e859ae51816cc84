-- Bytes stored in a lent buffer.
use Rattle.std.specs.Prelude.{◌≡◌, List, ℕ, ◌+◌, length}
use Rattle.std.proofs.lemmas.List.Edits.{sets}

-- What putting bytes from a place on promises: b before, d after, and the place behind them.
pub record Puts (bytes b : List ℕ) (at : ℕ) (d : List ℕ) (next : ℕ) : Type 0 where
  pub buffer : d ≡ sets b at bytes
  pub behind : next ≡ at + length bytes
