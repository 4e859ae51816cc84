-- What a sample that primes leaves of an axis, part by part: docs/RULES.md, "A port sample".
use Rattle.std.specs.Prelude.{◌≡◌, true, false}
use Rattle.axis.specs.Flags.{with_primed}
use Rattle.axis.specs.declared.row.Axis.{Axis}
use Rattle.axis_filter.specs.Lines.{Wire, level_of}
use Rattle.axis_settle.specs.Lines.{line}
use Rattle.axis_filter.specs.declared.Raw.{Raw}
use Rattle.axis_sample.specs.declared.step.Stepped.{Stepped}

-- A sample that primes takes the three raw levels with no run, sets PRIMED, leaves all else, and sets no bit of the answer.
pub record Primed (x : Axis) (s : Raw) (t : Stepped) : Type 0 where
  pub double : t.double ≡ false
  pub edge : t.index ≡ false
  pub lines : (w : Wire) → line t.axis w ≡ record { level = level_of s w; run = 0 }
  pub word : t.axis.word ≡ x.word
  pub flags : t.axis.flags ≡ with_primed true x.flags
  pub doubles : t.axis.doubles ≡ x.doubles
  pub pace : t.axis.pace ≡ x.pace
