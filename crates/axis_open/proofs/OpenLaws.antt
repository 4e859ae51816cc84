-- The laws of a row opened: what it opens to, by what it is.
use native.Mathlib.Omega.{arith}
use mathlib.Core.Path.{◌≡◌, refl, sym, ap, subst, ◌∙◌}
use mathlib.Core.Bool.{Bool, true, false, cond, not, ◌||◌}
use Rattle.axis.specs.declared.row.Axis.{Axis}
use Rattle.axis.specs.declared.row.Row.{Row}
use Rattle.axis_sound.specs.declared.Status.TheVariants.{Empty, Sampled, Counter, Broken}
use Rattle.axis_open.specs.declared.Opened.{Opened}
use Rattle.axis.specs.Row.{axis_of, Narrow}
use Rattle.axis_sound.specs.Sound.{is_empty, is_sampled, is_counter, status_of, low_row, passes}
use Rattle.axis_open.specs.Open.{broken_by}
use Rattle.axis.proofs.RowLaws.{row_held}
use Rattle.axis_sound.proofs.PassLaws.{low_same}
use Rattle.axis_sound.proofs.SoundLaws.{status_exactly, sampled_gives, counter_gives}

-- A row that is not sampled is broken where it is neither empty nor a counter's.
pub broken_by_lem : (r : Row) → is_sampled r ≡ false → broken_by (status_of r) ≡ not (is_empty r || is_counter r)
unfolding status_of
broken_by_lem r h = rw h (go (is_empty r) (is_counter r))
  where
    go : (e c : Bool) → broken_by (cond e Empty (cond c Counter Broken)) ≡ not (e || c)
    go true c = refl
    go false true = refl
    go false false = refl

-- What any row opens to is within its widths.
pub opened_narrow : (r : Row) (a : Axis) → a ≡ axis_of (low_row r) → Narrow a
opened_narrow r a e = subst Narrow (sym e) (row_held (low_row r)).narrow

-- A row that passes the test of a sampled one is that, and what it unpacks to is its axis.
pub sampled_opens : (r : Row) (a : Axis) → a ≡ axis_of (low_row r) → is_sampled r ≡ true → (status_of r ≡ Sampled) × (a ≡ axis_of r)
unfolding passes
sampled_opens r a h e =
    let s = (status_exactly Sampled r).1 e in
    (s, h ∙ ap axis_of (low_same r (sampled_gives r s).config.turn))

-- A row that opens as a sampled one is that, and what it opens to is its axis.
pub opened_sampled : (r : Row) (o : Opened) → (o.status ≡ status_of r) × (o.axis ≡ axis_of (low_row r)) → o.status ≡ Sampled →
    (status_of r ≡ Sampled) × (o.axis ≡ axis_of r)
opened_sampled r o h e =
    let s = sym h.0 ∙ e in
    (s, h.1 ∙ ap axis_of (low_same r (sampled_gives r s).config.turn))

-- So is one that opens as a counter.
pub opened_counter : (r : Row) (o : Opened) → (o.status ≡ status_of r) × (o.axis ≡ axis_of (low_row r)) → o.status ≡ Counter →
    (status_of r ≡ Counter) × (o.axis ≡ axis_of r)
opened_counter r o h e =
    let s = sym h.0 ∙ e in
    let zero : r.w3 ≡ 0 = ap (λ (a : Axis). a.config.turn) (counter_gives r s).rest in
    (s, h.1 ∙ ap axis_of (low_same r (omega arith)))
