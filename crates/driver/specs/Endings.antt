-- A driver's endings: the bits that no program raises; how a talk stands that has ended; and what its number says of the replies, whatever they are.
use Rattle.std.specs.Prelude.{ℕ, ◌+◌, ◌-◌, ◌*◌, ◌^◌, ◌≤◌, ◌<◌, ◌≡◌, Bool, true, length, None}
use Rattle.std.specs.Int.Bits.{bit_and}
use Rattle.parts.specs.Names.{GAVE-UP, DIFFERS}
use Rattle.parts.specs.Width.{value_of}
use Rattle.parts.specs.Table.{row_of}
use Rattle.parts.specs.Time.{polls_of}
use Rattle.parts.specs.declared.table.Row.{Row}
use Rattle.driver.specs.declared.machine.Step.{Step}
use Rattle.driver.specs.Writes.{write_count}
use Rattle.driver.specs.Machine.{bit_seven, bit_wanted, value_wanted, ending, final}
use Rattle.driver.specs.Talk.{Stepping, operation_cycles, Heard}

-- ---- a program clears bits and raises none
-- a bit of the old value would have to rise: the old value AND the data is not the data
abbrev pub MustRaise : ℕ → ℕ → Type 0
MustRaise old x = bit_and old x ≡ x → ⊥

-- bit 7 is one of them
abbrev pub MustRaiseSeven : ℕ → ℕ → Type 0
MustRaiseSeven old x = (bit_seven old ≡ 0) × (bit_seven x ≡ 1)

-- ---- whatever is replied
-- how a talk by a step function stands that has ended: it names nothing more; what it sent is its writes, as many polls as its result says and, unless it gave
-- up, one confirming read, so at most its writes, 2N polls and one read more; its phase is one that ends, and its answer that ending's number, 0, 11 or 12;
-- and it repeats its ending, whatever word is read
pub record Ended (steps : Stepping) (part command address word p : ℕ) (wp : Bool) (t : Heard) : Type 0 where
  pub names-nothing : t.last.next ≡ None
  pub sent : t.cycles ≡ operation_cycles (row_of part) wp command address word p t.last.polls t.last.driver.phase
  pub polls-few : t.last.polls ≤ polls_of (row_of part) command p * 2
  pub cycles-few : length t.cycles ≤ write_count command + polls_of (row_of part) command p * 2 + 1
  pub finished : final t.last.driver.phase ≡ true
  pub numbered : t.last.answer ≡ ending t.last.driver.phase
  pub repeated : (read : ℕ) → read < 2 ^ 16 → steps t.last.driver read ≡ t.last

-- ---- of the replies: f i is the reply to the i-th cycle, from 0; first come those to the writes, then those to the polls, then that to the confirming read
-- the reply to the i-th poll, from 0, shows the wanted bit 7
abbrev pub PollMatches : ℕ → ℕ → (ℕ → ℕ) → ℕ → Type 0
PollMatches command x f i = bit_seven (f (write_count command + i)) ≡ bit_wanted command x

-- the reply to the confirming read, after q polls, is the wanted value on the part's width
abbrev pub ReadConfirms : Row → ℕ → ℕ → (ℕ → ℕ) → ℕ → Type 0
ReadConfirms r command x f q = value_of r.width (f (write_count command + q)) ≡ value_wanted r command x

-- of q polls, at most 2N, the last is the first whose reply shows the wanted bit 7
pub record MatchedAfter (r : Row) (command x p : ℕ) (f : ℕ → ℕ) (q : ℕ) : Type 0 where
  pub some : 0 < q
  pub few : q ≤ polls_of r command p * 2
  pub last : PollMatches command x f (q - 1)
  pub first : (i : ℕ) → i < q - 1 → PollMatches command x f i → ⊥

-- no reply to one of 2N polls does
abbrev pub NeverMatched : Row → ℕ → ℕ → ℕ → (ℕ → ℕ) → Type 0
NeverMatched r command x p f = (i : ℕ) → i < polls_of r command p * 2 → PollMatches command x f i → ⊥

-- what the answer of a talk's last step says of the replies, with the polls in it; and that it is so exactly then
pub record Meaning (r : Row) (command x p : ℕ) (f : ℕ → ℕ) (s : Step) : Type 0 where
  -- 0: a poll matched, and the confirming read was the wanted value
  pub succeeded : s.answer ≡ 0 → MatchedAfter r command x p f s.polls × ReadConfirms r command x f s.polls
  pub succeeds : (q : ℕ) → MatchedAfter r command x p f q → ReadConfirms r command x f q → (s.answer ≡ 0) × (s.polls ≡ q)
  -- 12: a poll matched, and it was not
  pub differed : s.answer ≡ DIFFERS → MatchedAfter r command x p f s.polls × (ReadConfirms r command x f s.polls → ⊥)
  pub differs : (q : ℕ) → MatchedAfter r command x p f q → (ReadConfirms r command x f q → ⊥) → (s.answer ≡ DIFFERS) × (s.polls ≡ q)
  -- 11: none of 2N polls matched
  pub gave-up : s.answer ≡ GAVE-UP → NeverMatched r command x p f × (s.polls ≡ polls_of r command p * 2)
  pub gives_up : NeverMatched r command x p f → (s.answer ≡ GAVE-UP) × (s.polls ≡ polls_of r command p * 2)
