-- The three demands, in order: the seventeen theorems that the rest of this repository is for. Each is written out in the definitions of
-- specs/ and proved in a line or two by the laws that it cites. That every call ends and never traps, whatever it is lent, is what the
-- check of each function says, and no public call asks anything of its caller; what the calls answer and leave is what `Samples`, `Makes`,
-- `ReadingMakes`, `SaveMakes`, `viewed_in` and `speed_in` promise, in the contracts of table_port, table_change and table, and for a speed by
-- count `speed_by_count`, in that of speed. A run of calls is told by `table_run` and `heard` of runs, and RunIs there says that each of its
-- calls is what that call's contract promises.
use Rattle.std.specs.Prelude.{Result, Ok, Err, ⊤}
use Prim.Native.Nat.{ℕ, ◌+◌, ◌*◌, ◌≤◌, ◌<◌, min}
use mathlib.Core.Path.{◌≡◌, subst}
use mathlib.Core.Logic.{◌↔◌, ◌≢◌}
use mathlib.Core.Bool.{Bool, true, false, ◌&&◌}
use mathlib.Core.List.{List, [], ◌∷◌, ◌++◌}
use lib.Dec.{eqb}
use lib.IntN.{ℤ, pos, nat_abs, ◌+ℤ◌, ◌-ℤ◌, ◌*ℤ◌}
use lib.ListN.{length, take, drop}
use Rattle.refusal.specs.declared.Refusal.{Refusal}
use Rattle.refusal.specs.declared.Refusal.TheVariants.{Length, Layout}
use Rattle.fields.specs.Field.{flag_of}
use Rattle.position.specs.Position.{position_of}
use Rattle.speed.specs.Sum.{sum_of, numbers_of, remainders_of, Intervals, carried_by}
use Rattle.speed.specs.declared.Quotient.{Quotient}
use Rattle.speed.proofs.SumLaws.{says_more, day_exact, day_carried}
use Rattle.tagged.specs.Bytes.{AllBytes}
use Rattle.axis.specs.Kind.{X4}
use Rattle.axis.specs.Limit.{most_axes}
use Rattle.axis.specs.Config.{good_config}
use Rattle.axis.specs.Row.{axis_of, row_of, fresh, fresh_at}
use Rattle.axis_sound.specs.Sound.{status_of}
use Rattle.axis_sound.specs.declared.Status.TheVariants.{Empty, Sampled, Counter}
use Rattle.axis_filter.specs.Lines.{raw_of}
use Rattle.row_calls.specs.Calls.{config_of, setup_row, erase_row}
use Rattle.row_counter.specs.Counter.{newest, low_bits, UnderHalf}
use Rattle.row_saving.specs.Saving.{restore_row}
use Rattle.table_rows.specs.Table.{axes_in, row_at, AllWords}
use Rattle.table_port.specs.Port.{nibble, sampled_answer, Samples}
use Rattle.table_port.specs.declared.Masks.{Masks}
use Rattle.table_change.specs.Making.{Makes}
use Rattle.table.specs.Call.{viewed_in, SaveMakes}
use Rattle.table.proofs.SaveLaws.{unsaved_keeps}
use Rattle.history_axis.specs.Levels.{primed_at}
use Rattle.history_axis.specs.Entries.{number_of_e, both_change}
use Rattle.history_axis.specs.Tally.{place_tally, doubles_tally, sum}
use Rattle.history_axis.specs.Reference.{shown, EdgeAngle, Zero, homed, zero_angle, Near}
use Rattle.history_axis.specs.Shaft.{ShaftSample, raw_at, angle_at, turned_by, AtMostTwo, Undisturbed}
use Rattle.runs.specs.Told.{Told, refused, number}
use Rattle.runs.specs.Op.{Op, reading}
use Rattle.runs.specs.Event.{asked, row_since}
use Rattle.runs.specs.Run.{Call, names, table_run, answer_in, heard, Says}
use Rattle.runs.specs.Refusing.{RefusesExactly}
use Rattle.history.specs.Phase.{phase_of, told_row, start_axis, acts_since}
use Rattle.history.specs.Seen.{view_told}
use Rattle.history.specs.Lasting.{erases, Unerased, heeded}
use Rattle.history.specs.Shaft.{ShaftShown}
use Rattle.history.specs.Reference.{zero_after}
use Rattle.history.specs.Counter.{CounterReads}
use Rattle.promises.specs.Own.{events, own, told_since}
use Rattle.promises.specs.Agreement.{BeginAlike, EndAlike}
use Rattle.promises.specs.Edge.{axis_after, Following, NextSample}
use Rattle.promises.specs.Day.{AnsweredOver}
use Rattle.promises.specs.Occupied.{OnFull}
use Rattle.promises.proofs.Refusing.{sample_says, call_says}
use Rattle.promises.proofs.CountIsRight.{row_told, position_told, doubles_told, double_told, bits_none}
use Rattle.promises.proofs.UserSees.{view_told_lem}
use Rattle.promises.proofs.Shafts.{shaft_double, shaft_position, shaft_counter, shaft_reading}
use Rattle.promises.proofs.Edges.{edge_homed, edge_position, edge_call, edge_other, edge_next}
use Rattle.promises.proofs.Occupied.{keeps_all, frees, survives}
use Rattle.promises.proofs.Restoring.{restores_save, restores_erased, saves_restored, other_layout}
use Rattle.promises.proofs.Days.{answered_divides}
use Rattle.promises.proofs.Apart.{ends_alike}
use Rattle.promises.proofs.ToldAlone.{heard_told}

-- ---- 1. Never trapped, always ends: each refusal comes exactly when docs/RULES.md says, and nothing lent has changed

-- HEADLINE: a port sample is refused exactly where the slice is not four words for each of 1 to the most axes there may be, by LENGTH, and
-- then every word stays.
pub sample_refused : (t u : List ℕ) (word : ℕ) (a : Result Masks Refusal) → Samples t word u a → (e : Refusal) →
    ((a ≡ Err e) ↔ (((n : ℕ) → 1 ≤ n → n ≤ most_axes → length t ≢ n * 4) × (e ≡ Length))) × (a ≡ Err e → u ≡ t)
sample_refused t u word a = sample_says t u word a

-- HEADLINE: a call that names an axis answers the reasons 1 to 5 and 13 exactly when their lines say; on a row that it takes it answers as
-- one of its lines in `Answers` says, the reasons 6 to 12 there; no row is left over; and where it is refused every word stays.
pub call_refused : (o : Op) (t u : List ℕ) (k : ℕ) (a : Told) → Says o t k u a →
    RefusesExactly o t k a × ((e : Refusal) → a ≡ refused e → u ≡ t)
call_refused o t u k a = call_says o t u k a

-- HEADLINE: a save that is refused keeps every byte of its buffer.
pub save_refused : (t b d : List ℕ) (k : ℕ) (e : Refusal) → SaveMakes t k b d (Err e) → d ≡ b
save_refused t b d k e = unsaved_keeps t k b e

-- HEADLINE: any number of setups, restores and looks of rows that are not empty, broken ones too, change no word of the table.
pub occupied_kept : (t : List ℕ) (cs : List Call) → OnFull t cs → table_run t cs ≡ t
occupied_kept = keeps_all

-- HEADLINE: and any row can be freed: an erase is done whatever it holds, and after it a setup with good arguments is done.
pub row_freed : (t : List ℕ) (k kind depth width turn : ℕ) {u v : List ℕ} {a b : Result ⊤ Refusal} → k < axes_in (length t) →
    good_config kind depth width turn ≡ true → Makes erase_row t k u a → Makes (setup_row kind depth width turn) u k v b →
    (a ≡ Ok tt) × (b ≡ Ok tt) × (row_at v k ≡ row_of (fresh (config_of kind depth width turn)))
row_freed = frees

-- ---- 2. The count is right

module _ (t : List ℕ) (k : ℕ) (words : AllWords t) (there : k < axes_in (length t)) where
  -- HEADLINE: after any run a sampled row's position, while RANGE is clear, is the last value set, restored or homed plus the net steps
  -- that its mode counts on the filtered lines since, after a homing backward from the step of that sample on; its doubles is the smaller
  -- of 65,535 and the double steps since setup, restore or acknowledge; and a view shows position, flags and doubles as they are told.
  pub count_told : (cs : List Call) → status_of (row_at (table_run t cs) k) ≡ Sampled →
      ((axis_of (row_at (table_run t cs) k)).flags.range ≡ false →
      position_of (row_at (table_run t cs) k).w0
      ≡ (place_tally (start_axis (row_at t k) (own k cs)) (acts_since (row_at t k) (own k cs))).value.position +ℤ sum
      (place_tally (start_axis (row_at t k) (own k cs)) (acts_since (row_at t k) (own k cs))).moves)
      × ((axis_of (row_at (table_run t cs) k)).doubles
      ≡ min 65535
      ((doubles_tally (start_axis (row_at t k) (own k cs)) (acts_since (row_at t k) (own k cs))).value
      + number_of_e (doubles_tally (start_axis (row_at t k) (own k cs)) (acts_since (row_at t k) (own k cs))).moves))
      × (viewed_in (table_run t cs) k ≡ Ok (view_told (start_axis (row_at t k) (own k cs)) (acts_since (row_at t k) (own k cs))))
  count_told cs s = (position_told t k words there cs s, doubles_told t k words there cs s, view_told_lem t k words there cs s)

  -- HEADLINE: a live axis's count survives any mix of setups, restores and looks: a row that is not empty is, after any run without an
  -- erase of it, in all four words the row after axis k's own events with these left out.
  pub count_survives : status_of (row_at t k) ≢ Empty → (cs : List Call) → Unerased (own k cs) →
      row_at (table_run t cs) k ≡ row_since (row_at t k) (heeded (own k cs))
  count_survives = survives t k words there

  -- HEADLINE: every double step is flagged: mask bit k of any sample of a run stands exactly where row k is sampled and primed and both
  -- filtered lines, A and B, change.
  pub double_flagged : (cs : List Call) (word : ℕ) (m : Masks) → sampled_answer (table_run t cs) word ≡ Ok m →
      (status_of (row_at (table_run t cs) k) ≡ Sampled →
      flag_of k m.doubles
      ≡ (primed_at (start_axis (row_at t k) (own k cs)) (acts_since (row_at t k) (own k cs))
      && both_change (start_axis (row_at t k) (own k cs)) (raw_of (nibble word k)) (acts_since (row_at t k) (own k cs))))
      × (status_of (row_at (table_run t cs) k) ≢ Sampled → flag_of k m.doubles ≡ false)
  double_flagged cs word m e = (double_told t k words there cs word m e, λ other. (bits_none t k words there cs word m e other).0)

  -- HEADLINE: at depth 1, x4, with no call on axis k between and moves of at most two quarter steps, mask bit k stands at exactly the
  -- samples with two, and over any stretch without E or homing, while RANGE is clear, the position moves exactly as the shaft does.
  pub shaft_followed : status_of (row_at t k) ≡ Sampled → (axis_of (row_at t k)).config.kind ≡ X4 → (axis_of (row_at t k)).config.depth ≡ 1 →
      (first : ShaftSample) (cs : List Call) (old : List ShaftSample) → ShaftShown (own k cs) first old →
      ((word : ℕ) (s : ShaftSample) (m : Masks) → raw_of (nibble word k) ≡ raw_at s → turned_by first old s ≤ 2 →
      sampled_answer (table_run t cs) word ≡ Ok m → flag_of k m.doubles ≡ eqb (turned_by first old s) 2)
      × ((ds : List Call) (new : List ShaftSample) → ShaftShown (own k (cs ++ ds)) first (new ++ old) → AtMostTwo first old new →
      Undisturbed (axis_of (row_at t k)) first old new → (axis_of (row_at (table_run t (cs ++ ds)) k)).flags.range ≡ false →
      position_of (row_at (table_run t (cs ++ ds)) k).w0
      ≡ position_of (row_at (table_run t cs) k).w0 +ℤ (angle_at first (new ++ old) -ℤ angle_at first old))
  shaft_followed s x d f cs old p =
      (shaft_double t k words there s x d f cs old p, λ ds new. shaft_position t k words there s x d f cs ds old new p)

  -- HEADLINE: at depth 1, x4, with Z a function of the shaft's angle and moves of at most one quarter step: while RANGE is clear the
  -- position is the angle less that of its zero, and since a home that is an edge's angle; mask bit k stands exactly where the shaft goes
  -- over an edge's angle, either way; an armed axis is homed there, forward or backward, and has its zero there from then on; where it is
  -- not armed, or goes over no edge, the zero stays, and so it does over every call but an erase and an accepted preset; and where
  -- every edge lies a whole number of turns from the one homed over, no check sets INDEX, either way.
  pub edge_followed : (z : ℤ → Bool) (cs : List Call) (b : ℤ) (o : Zero) → Following z t k cs b o →
      ((axis_after t k cs).flags.range ≡ false → position_of (axis_after t k cs).word ≡ b -ℤ zero_angle o)
      × ((a : ℤ) → o ≡ homed a → EdgeAngle z a)
      × ((word : ℕ) (c : ℤ) → raw_of (nibble word k) ≡ shown z c → Near b c → NextSample z t k cs b o word c)
      × ((op : Op) → erases (asked op) ≡ false → Following z t k (cs ++ (names k op ∷ [])) b (zero_after op b o))
      × ((j : ℕ) (op : Op) → j ≢ k → Following z t k (cs ++ (names j op ∷ [])) b o)
  edge_followed z cs b o on = (
    edge_position t k words there z cs on,
    λ a same. edge_homed t k words there z cs (subst (λ (p : Zero). Following z t k cs b p) same on),
    edge_next t k words there z cs on,
    edge_call t k words there z cs on,
    edge_other t k words there z cs on,
  )

  -- HEADLINE: a counter whose shaft stays in the range and moves less than half a counter turn from reading to reading is where the shaft
  -- is, whatever is refused or only looks between, and its next reading is answered by the shaft's true position.
  pub counter_followed : status_of (row_at t k) ≡ Counter → (cs : List Call) {ps : List ℤ} →
      CounterReads (row_at t k) (axis_of (row_at t k)).config.width (own k cs) ps →
      (UnderHalf (axis_of (row_at t k)).config.width (position_of (row_at t k).w0) ps →
      position_of (row_at (table_run t cs) k).w0 ≡ newest (position_of (row_at t k).w0) ps)
      × ((p : ℤ) → UnderHalf (axis_of (row_at t k)).config.width (position_of (row_at t k).w0) (p ∷ ps) →
      answer_in (table_run t cs) k (reading (low_bits (axis_of (row_at t k)).config.width p)) ≡ number p)
  counter_followed s cs p = (shaft_counter t k words there s cs p, λ z. shaft_reading t k words there s cs p)

-- HEADLINE: a restore of what a save wrote, at any empty row of any table and after an erase at any row, is done, and its row is the
-- configuration and the position saved with all else 0.
pub save_restored : (t b : List ℕ) (k n : ℕ) {d : List ℕ} → SaveMakes t k b d (Ok n) → (u : List ℕ) (j : ℕ) → j < axes_in (length u) →
    ((v : List ℕ) (a : Result ⊤ Refusal) → status_of (row_at u j) ≡ Empty → Makes (restore_row (take n d)) u j v a →
    (a ≡ Ok tt) × (row_at v j ≡ row_of (fresh_at (axis_of (row_at t k)).config (axis_of (row_at t k)).word)))
    × ((v w : List ℕ) (a c : Result ⊤ Refusal) → Makes erase_row u j v a → Makes (restore_row (take n d)) v j w c →
    (a ≡ Ok tt) × (c ≡ Ok tt) × (row_at w j ≡ row_of (fresh_at (axis_of (row_at t k)).config (axis_of (row_at t k)).word)))
save_restored t b k n saves u j there =
    (λ v a. restores_save t b k n saves u j there, λ v w a c. restores_erased t b k n saves u j there)

-- HEADLINE: a record that was accepted, saved again, is the same bytes, with nothing beyond them touched.
pub restore_saved : (s t u : List ℕ) (k : ℕ) → AllBytes s → Makes (restore_row s) t k u (Ok tt) → (b : List ℕ) {d : List ℕ} {a : Result ℕ Refusal} →
    SaveMakes u k b d a → length s ≤ length b → (a ≡ Ok (length s)) × (d ≡ s ++ drop (length s) b)
restore_saved = saves_restored

-- HEADLINE: a record of another layout, 01 00 02 and then a number other than 1, is refused by LAYOUT with that number, whatever follows,
-- and nothing changes.
pub layout_refused : (t : List ℕ) (k high low : ℕ) (rest : List ℕ) → high < 256 → low < 256 → high * 256 + low ≢ 1 →
    k < axes_in (length t) → {u : List ℕ} {a : Result ⊤ Refusal} → Makes (restore_row (1 ∷ 0 ∷ 2 ∷ high ∷ low ∷ rest)) t k u a →
    (a ≡ Err (Layout (high * 256 + low))) × (u ≡ t)
layout_refused = other_layout

-- HEADLINE: speeds add up to what was counted: over any list of answers of the two speed calls at one rate F with one divisor T, T times
-- the sum of their numbers plus the sum of their remainders is exactly 1000 F times all counts; and where a caller keeps a carry, T times
-- what was added plus the carry is that after any list, and the carry is at most half of T in size.
pub speeds_summed : (T F : ℕ) {counts : List ℤ} {answers : List Quotient} → Intervals (AnsweredOver T F) counts answers →
    ((sum_of (numbers_of answers) *ℤ pos T) +ℤ sum_of (remainders_of answers) ≡ sum_of counts *ℤ pos (1000 * F))
    × (((carried_by T answers).sum *ℤ pos T) +ℤ (carried_by T answers).carry ≡ sum_of counts *ℤ pos (1000 * F))
    × (2 * nat_abs (carried_by T answers).carry ≤ T)
speeds_summed T F day =
    let known = says_more (answered_divides T F) day in
    (day_exact T F known, (day_carried T F known).0, (day_carried T F known).1)

-- ---- 3. Axes are apart

-- HEADLINE: two tables of one length and a run on each that agree on axis k's row and on k's own part of every call agree, for axis k, on
-- its row at the end and after each of its own events and on all that it is told, whatever the other axes did.
pub axes_apart : (k : ℕ) (t u : List ℕ) (cs ds : List Call) → BeginAlike k t u cs ds → EndAlike k t u cs ds
axes_apart k t u cs ds = ends_alike

-- HEADLINE: and that row, those answers, the bytes that a save wrote and those bits of the masks are exactly what the history of axis k
-- alone tells.
pub axis_told : (t : List ℕ) (k : ℕ) → AllWords t → k < axes_in (length t) → (cs : List Call) →
    (row_at (table_run t cs) k ≡ told_row (phase_of (row_at t k) (own k cs)))
    × (heard k t cs ≡ told_since (phase_of (row_at t k) []) (events k cs))
axis_told t k words there cs = (row_told t k words there cs, heard_told t k words there cs)
