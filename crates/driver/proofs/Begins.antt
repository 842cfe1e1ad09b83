-- What an accepted start hands back.
use Prim.Native.Nat.{ℕ, ◌≤◌, ◌<◌}
use mathlib.Core.Path.{◌≡◌, refl, ◌∙◌}
use mathlib.Core.Bool.{Bool, true, false}
use native.Mathlib.Omega.{arith}
use borrow.Author.Tests.{lt-ltb}
use lib.Dec.{eqb, ltb}
use Rattle.parts.specs.Names.{NO-ADDRESS, WIDE-DATA, NO-COMMAND}
use Rattle.parts.specs.Pick.{pick, ◌when◌, ◌unless◌, ◌else◌}
use Rattle.parts.specs.Table.{row_of}
use Rattle.parts.specs.Time.{has_command}
use Rattle.parts.specs.Width.{blank_of, fits_in}
use Rattle.parts.specs.declared.table.Row.{Row}
use Rattle.device.specs.Sequence.{ignored}
use Rattle.driver.proofs.Commands.{command-le, four}
use Rattle.driver.specs.Refusals.{data_refusal, target_refusal, start_refusal}
use Rattle.driver.specs.Writes.{last_write, writes_of, write_count}
use Rattle.driver.specs.Machine.{address_of, data_of, bit_seven, bit_wanted, value_wanted, begun, start_of, in_range, step_of, writing_of}
use Rattle.driver.proofs.Asked as asks
use Rattle.driver.proofs.Ready.{write-count-some}
use Rattle.driver.proofs.Steps.{goes}

-- ---- what is kept of the address and the data asks for the same
pub kept-address : (command a : ℕ) → address_of command (address_of command a) ≡ address_of command a
kept-address command a = by (eqb command 3)
  where
    by : (z : Bool) → pick z 0 (pick z 0 a) ≡ pick z 0 a
    by true = refl
    by false = refl

pub kept-bit : (command x : ℕ) → bit_wanted command (data_of command x) ≡ bit_wanted command x
kept-bit command x = by (eqb command 0)
  where
    by : (z : Bool) → pick z (bit_seven (pick z x 0)) 1 ≡ pick z (bit_seven x) 1
    by true = refl
    by false = refl

pub kept-value : (r : Row) (command x : ℕ) → value_wanted r command (data_of command x) ≡ value_wanted r command x
kept-value r command x = by (eqb command 0)
  where
    by : (z : Bool) → pick z (pick z x 0) (blank_of r.width) ≡ pick z x (blank_of r.width)
    by true = refl
    by false = refl

module _ (r : Row) (command a x : ℕ) (few : command ≤ 3) where
  pub kept-last : last_write r command (address_of command a) (data_of command x) ≡ last_write r command a x
  unfolding last_write
  kept-last = four (λ (k : ℕ). last_write r k (address_of k a) (data_of k x) ≡ last_write r k a x) refl refl refl refl command few

  pub kept-writes : writes_of r command (address_of command a) (data_of command x) ≡ writes_of r command a x
  unfolding writes_of
  kept-writes = rw kept-last

  pub kept-heeded : (wp : Bool) → ignored r wp command (address_of command a) ≡ ignored r wp command a
  unfolding ignored
  kept-heeded wp = four (λ (k : ℕ). ignored r wp k (address_of k a) ≡ ignored r wp k a) refl refl refl refl command few

-- and so is refused as what was given
pub kept-target : (r : Row) (command a x : ℕ) → target_refusal r command (address_of command a) (data_of command x) ≡ target_refusal r command a x
unfolding target_refusal data_refusal
kept-target r command a x = by (has_command r command) (eqb command 3) (eqb command 0)
  where
    by : (has chip program : Bool)
        → (NO-COMMAND unless has else 0 when chip else NO-ADDRESS unless ltb (pick chip 0 a) r.cells else 0 unless program else WIDE-DATA unless fits_in r.width (pick program x 0) else 0)
        ≡ (NO-COMMAND unless has else 0 when chip else NO-ADDRESS unless ltb a r.cells else 0 unless program else WIDE-DATA unless fits_in r.width x else 0)
    by false chip program = refl
    by true true program = refl
    by true false true = refl
    by true false false = refl

pub kept-start : (part command a x p : ℕ) → start_refusal part command (address_of command a) (data_of command x) p ≡ start_refusal part command a x p
unfolding start_refusal
kept-start part command a x p = rw kept-target

-- ---- an accepted start
module _ (part command a x p : ℕ) (accepted : start_refusal part command a x p ≡ 0) where
  pub start_is : start_of part command a x p ≡ record { answer = 0; driver = begun part command a x p }
  unfolding start_of
  start_is = rw accepted

  pub few-commands : command ≤ 3
  few-commands = command-le (row_of part) command (asks.begun part command a x p accepted).asked.target.has

  -- what is kept of the address and the data is accepted as well
  pub kept-accepted : start_refusal part command (address_of command a) (data_of command x) p ≡ 0
  kept-accepted = kept-start part command a x p ∙ accepted

  pub start-range : in_range (begun part command a x p) ≡ true
  unfolding in_range
  start-range = rw kept-accepted (lt-ltb 0 (write_count command) (omega (arith, write-count-some command)))

-- what the check proves `start_writing` by: a start is stepped once
pub writes-first : (part command a x p : ℕ) → start_refusal part command a x p ≡ 0 → step_of (begun part command a x p) 0 ≡ writing_of (row_of part) (begun part command a x p)
writes-first part command a x p accepted = goes (begun part command a x p) 0 (start-range part command a x p accepted)

pub first-fits : (command : ℕ) → 0 < write_count command
first-fits command = omega (arith, write-count-some command)

pub ruleset writing = (kept-start, writes-first, first-fits)

-- what the check proves `start` by
pub ruleset starts = (kept-start)
