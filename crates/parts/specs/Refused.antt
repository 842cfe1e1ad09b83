-- A refusal's number, and what a call that may be refused answers.
use Rattle.std.specs.Prelude.{ℕ, Result, Ok, Err}
use Rattle.parts.specs.Names.{NO-PART, WRONG-CELLS, NO-ADDRESS, WIDE-DATA, BAD-STATE, NOT-SECTORS, PAST-CELLS, WIDE-IMAGE, PROTECTED, BAD-INTERVAL, GAVE-UP, DIFFERS, BAD-FILE, NO-COMMAND, NO-ENTRY}
use Rattle.parts.specs.declared.refusal.Refusal.{Refusal}
use Rattle.parts.specs.declared.refusal.Refusal.TheVariants.{NoPart, WrongCells, NoAddress, WideData, BadState, NotSectors, PastCells, WideImage, Protected, BadInterval, GaveUp, Differs, BadFile, NoCommand, NoEntry}

-- the number of each, in the order of the table
abbrev pub number_of : Refusal → ℕ
number_of NoPart = NO-PART
number_of WrongCells = WRONG-CELLS
number_of NoAddress = NO-ADDRESS
number_of WideData = WIDE-DATA
number_of BadState = BAD-STATE
number_of NotSectors = NOT-SECTORS
number_of PastCells = PAST-CELLS
number_of WideImage = WIDE-IMAGE
number_of Protected = PROTECTED
number_of BadInterval = BAD-INTERVAL
number_of GaveUp = GAVE-UP
number_of Differs = DIFFERS
number_of BadFile = BAD-FILE
number_of NoCommand = NO-COMMAND
number_of NoEntry = NO-ENTRY

-- the answer: 0, or the refusal's number
abbrev pub answer_of : {A : Type 0} → Result A Refusal → ℕ
answer_of (Ok x) = 0
answer_of (Err e) = number_of e
