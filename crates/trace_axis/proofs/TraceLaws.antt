-- The laws of a trace: docs/RULES.md, "Trace program".
use Rattle.std.specs.Prelude.{Ok}
use Prim.Native.Nat.{ℕ, zero, suc, ◌+◌, ◌-◌, ◌/◌, ◌%◌, ◌^◌, ◌≤◌, ◌<◌, min}
use native.Mathlib.Nat.{zero-add, add-zero, add_assoc}
use native.Mathlib.Omega.{arith}
use mathlib.Core.Path.{◌≡◌, refl, sym, ap, ◌∙◌}
use mathlib.Core.List.{List, [], ◌∷◌, ◌++◌, map}
use lib.ListN.{length, take, length-append, length-take}
use lib.Seq.{take-nil, take_all}
use lib.Dec.{lit<}
use lib.IntN.{pos}
use Rattle.position.specs.Position.{position_of}
use Rattle.position.proofs.PositionLaws.{origin_holds}
use Rattle.axis.specs.Config.{good_config}
use Rattle.axis.specs.Limit.{most_axes}
use Rattle.axis.specs.Kind.{X4}
use Rattle.axis.specs.Row.{axis_of, row_of, fresh}
use Rattle.axis_sound.specs.Sound.{status_of}
use Rattle.axis.specs.declared.row.Row.{Row}
use Rattle.axis_sound.specs.declared.Status.TheVariants.{Sampled}
use Rattle.axis_sound.proofs.SoundLaws.{setup_sound}
use Rattle.row_sample.specs.Sample.{step_row}
use Rattle.row_sample.proofs.SampleLaws.{status_after}
use Rattle.row_view.specs.View.{view_of}
use Rattle.row_calls.specs.Calls.{config_of, setup_row}
use Rattle.row_view.specs.View.{view_row}
use Rattle.table_rows.specs.Table.{axes_in, row_at, set_row}
use Rattle.table_rows.specs.Located.{located}
use Rattle.table_port.specs.Port.{nibble, sampled_to, sampled_table}
use Rattle.table_change.specs.Making.{table_after}
use Rattle.table.specs.Call.{viewed_in}
use Rattle.table_rows.proofs.RowsLaws.{row_same}
use Rattle.table_rows.proofs.LocatedLaws.{found_at}
use Rattle.table_port.proofs.PortLaws.{length_sampled_to}
use Rattle.trace_axis.specs.Trace.{LIMIT, started, traced_by, looked_at, fed_with, report_of, low_four, stepped_by, input_row, input_report}
use Rattle.trace_axis.specs.declared.trace.Trace.{Trace}

-- ---- bytes in two parts

-- The first elements of two lists in a row.
take_append : (n : ℕ) (a b : List ℕ) → take n (a ++ b) ≡ take n a ++ take (n - length (take n a)) b
take_append zero a b = refl
take_append (suc n) [] b = let e : suc n ≡ suc n - 0 = omega arith in ap (λ (m : ℕ). take m b) e
take_append (suc n) (x ∷ a) b =
    let e : suc n - suc (length (take n a)) ≡ n - length (take n a) = omega arith in
    rw e (ap (λ (l : List ℕ). x ∷ l) (take_append n a b))

-- The bytes that are looked at in two parts.
looked_append : (n : ℕ) (a b : List ℕ) → looked_at n (a ++ b) ≡ looked_at n a ++ looked_at (n + length (looked_at n a)) b
looked_append n a b =
    let e : LIMIT - (n + length (looked_at n a)) ≡ LIMIT - n - length (looked_at n a) = omega arith in
    rw e (take_append (LIMIT - n) a b)

traced_append : (t a b : List ℕ) → traced_by t (a ++ b) ≡ traced_by (traced_by t a) b
unfolding traced_by
traced_append t [] b = refl
traced_append t (x ∷ a) b = traced_append (sampled_table t x) a b

-- Nothing fed is nothing changed.
pub fed_none : (x : Trace) → fed_with x [] ≡ x
unfolding fed_with traced_by
fed_none x = rw (take-nil, add-zero)

-- A byte below the limit is one port sample.
pub fed_sample : (x : Trace) (b : ℕ) (t : List ℕ) → x.samples < LIMIT → t ≡ sampled_table x.words b →
    record { words = t; samples = x.samples + 1 } ≡ fed_with x (b ∷ [])
unfolding fed_with traced_by
fed_sample x b t h e =
    let q : take (LIMIT - x.samples) (b ∷ []) ≡ b ∷ [] = take_all (LIMIT - x.samples) (b ∷ []) (omega arith) in
    rw (q, e)

-- Below the limit every read gets on.
pub fed_grows : (x : Trace) (bs : List ℕ) → x.samples < LIMIT → 0 < length bs → x.samples < (fed_with x bs).samples
unfolding fed_with
fed_grows x bs h some = omega (arith, length-take (LIMIT - x.samples) bs)

-- ---- from a table's words to its row

-- A sample of a table of one axis steps its row by the low four bits.
row_sampled : (t : List ℕ) (b : ℕ) → length t ≡ 4 → row_at (sampled_table t b) 0 ≡ (step_row (row_at t 0) (low_four b)).row
unfolding sampled_table sampled_to axes_in most_axes nibble
row_sampled t b e =
    let q : b / 1 % 16 ≡ b % 16 = omega arith in
    rw e (row_same t 0 _ (omega arith) ∙ ap (λ (n : ℕ). (step_row (row_at t 0) n).row) q)

length_sampled : (t : List ℕ) (b : ℕ) → length (sampled_table t b) ≡ length t
unfolding sampled_table
length_sampled t b = length_sampled_to t (nibble b) (axes_in (length t))

length_traced : (t bs : List ℕ) → length (traced_by t bs) ≡ length t
unfolding traced_by
length_traced t [] = refl
length_traced t (b ∷ bs) = length_traced (sampled_table t b) bs ∙ length_sampled t b

length_fed : (x : Trace) (bs : List ℕ) → length (fed_with x bs).words ≡ length x.words
unfolding fed_with
length_fed x bs = length_traced x.words (looked_at x.samples bs)

row_traced : (t bs : List ℕ) → length t ≡ 4 → row_at (traced_by t bs) 0 ≡ stepped_by (row_at t 0) (map low_four bs)
unfolding traced_by stepped_by
row_traced t [] e = refl
row_traced t (b ∷ bs) e =
    row_traced (sampled_table t b) bs (length_sampled t b ∙ e) ∙ ap (λ (r : Row). stepped_by r (map low_four bs)) (row_sampled t b e)

-- What a row is, it stays.
status_stepped : (r : Row) (ns : List ℕ) → status_of (stepped_by r ns) ≡ status_of r
unfolding stepped_by
status_stepped r [] = refl
status_stepped r (n ∷ ns) = status_stepped (step_row r n).row ns ∙ status_after r n

-- A trace starts with the row of a setup.
start_row : row_at started.words 0 ≡ row_of (fresh (config_of X4 1 0 0))
unfolding started table_after located setup_row good_config axes_in most_axes row_at set_row
start_row = refl

start_length : length started.words ≡ 4
unfolding started table_after located setup_row good_config axes_in most_axes row_at set_row
start_length = refl

-- A view of a table of one sampled axis shows that axis.
view_one : (t : List ℕ) (r : Row) → length t ≡ 4 → row_at t 0 ≡ r → status_of r ≡ Sampled → viewed_in t 0 ≡ Ok (view_of (axis_of r))
unfolding axes_in most_axes view_row
view_one t r l e s = let h : 0 < axes_in (length t) = rw l (lit< tt) in rw (sym (found_at t 0 h), e, s)

-- ---- a whole input

-- The row of a whole input is a sampled one.
input_sampled : (bs : List ℕ) → status_of (input_row bs) ≡ Sampled
unfolding good_config
input_sampled bs = status_stepped _ (map low_four (take LIMIT bs)) ∙ setup_sound (config_of X4 1 0 0) (2 ^ 62) origin_holds refl

-- ---- the promises

-- Bytes fed in two parts are fed as one, so how an input is cut into reads plays no part.
pub cut : (x : Trace) (a b : List ℕ) → fed_with (fed_with x a) b ≡ fed_with x (a ++ b)
unfolding fed_with
cut x a b = rw (looked_append x.samples a b, traced_append, length-append, add_assoc)

-- Once the limit is reached, no byte changes anything.
pub past_limit : (x : Trace) (bs : List ℕ) → LIMIT ≤ x.samples → fed_with x bs ≡ x
unfolding fed_with traced_by
past_limit x bs h =
    let e : LIMIT - x.samples ≡ 0 = omega arith in
    rw (e, add-zero)

-- After a whole input the samples are its bytes, up to the limit.
pub samples_rule : (bs : List ℕ) → (fed_with started bs).samples ≡ min LIMIT (length bs)
unfolding fed_with started
samples_rule bs = zero-add _ ∙ length-take LIMIT bs

-- After a whole input the axis's row is the one that the sample rule makes of those bytes, by their low four bits.
pub row_rule : (bs : List ℕ) → row_at (fed_with started bs).words 0 ≡ input_row bs
unfolding fed_with started
row_rule bs = row_traced started.words (looked_at started.samples bs) start_length
    ∙ ap (λ (r : Row). stepped_by r (map low_four (looked_at 0 bs))) start_row

-- The report of a whole input is its samples, and that row's position and doubles.
pub rule : (bs : List ℕ) → report_of (fed_with started bs) ≡ input_report bs
unfolding report_of
rule bs =
    let l : length (fed_with started bs).words ≡ 4 = length_fed started bs ∙ start_length in
    rw (samples_rule bs, view_one (fed_with started bs).words (input_row bs) l (row_rule bs) (input_sampled bs))

-- Bytes behind the first 2 ^ 32 - 1 are not looked at.
pub limit_rule : (a b : List ℕ) → LIMIT ≤ length a → fed_with started (a ++ b) ≡ fed_with started a
limit_rule a b h = sym (cut started a b) ∙ past_limit (fed_with started a) b (rw (samples_rule a) (omega arith))

-- Of no bytes the report is 0, 0 and 0.
pub none : report_of (fed_with started []) ≡ record { samples = 0; position = pos 0; doubles = 0 }
unfolding stepped_by position_of
none = rule []
