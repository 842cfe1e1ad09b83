-- Each exported function's promise determines its result and what the lent slice holds afterwards: any two outcomes that it
-- allows are equal. Stated on the promise that is made from the source.
use mathlib.Core.Path.{◌≡◌, sym, ◌∙◌}
use contract.Lifetimes.{Lfts}
use borrow.Fn.Kinds.{Dens, ended_of, res_t}
use denote.Triple.Clauses.{AtExit}
use Rattle.parts.proofs.Unique.{Unique}
use Rattle.numbers.proofs.machine.start_numbers.Kinds as start-kinds
use Rattle.numbers.proofs.machine.start_numbers.Reads as start-reads
use Rattle.numbers.proofs.machine.stepped.Kinds as stepped-kinds
use Rattle.numbers.proofs.machine.stepped.Reads as stepped-reads
use Rattle.numbers.proofs.loading.begin_numbers.Kinds as begin-kinds
use Rattle.numbers.proofs.loading.begin_numbers.Reads as begin-reads
use Rattle.numbers.proofs.loading.turned.Kinds as turned-kinds
use Rattle.numbers.proofs.loading.turned.Reads as turned-reads
use Rattle.numbers.proofs.machine.DriverNumbersFromDriver.from.Kinds as driver-numbers-kinds
use Rattle.numbers.proofs.machine.DriverNumbersFromDriver.from.Reads as driver-numbers-reads
use Rattle.numbers.proofs.machine.DriverFromDriverNumbers.from.Kinds as driver-kinds
use Rattle.numbers.proofs.machine.DriverFromDriverNumbers.from.Reads as driver-reads
use Rattle.numbers.proofs.machine.CycleNumbersFromOptionTuple2U32Action.from.Kinds as next-numbers-kinds
use Rattle.numbers.proofs.machine.CycleNumbersFromOptionTuple2U32Action.from.Reads as next-numbers-reads
use Rattle.numbers.proofs.machine.StepNumbersFromStep.from.Kinds as step-numbers-kinds
use Rattle.numbers.proofs.machine.StepNumbersFromStep.from.Reads as step-numbers-reads
use Rattle.numbers.proofs.loading.LoadingNumbersFromLoading.from.Kinds as loading-numbers-kinds
use Rattle.numbers.proofs.loading.LoadingNumbersFromLoading.from.Reads as loading-numbers-reads
use Rattle.numbers.proofs.loading.LoadingFromLoadingNumbers.from.Kinds as loading-kinds
use Rattle.numbers.proofs.loading.LoadingFromLoadingNumbers.from.Reads as loading-reads
use Rattle.numbers.proofs.loading.CycleNumbersFromOptionTuple2PurposeCycle.from.Kinds as sending-numbers-kinds
use Rattle.numbers.proofs.loading.CycleNumbersFromOptionTuple2PurposeCycle.from.Reads as sending-numbers-reads

pub start-numbers-unique : Unique start-kinds.ps start-kinds.r start-reads.Post
start-numbers-unique κs a x y s t p q = p ∙ sym q

pub stepped-unique : Unique stepped-kinds.ps stepped-kinds.r stepped-reads.Post
stepped-unique κs a x y s t p q = p ∙ sym q

pub begin-numbers-unique : Unique begin-kinds.ps begin-kinds.r begin-reads.Post
begin-numbers-unique κs a x y s t p q = p ∙ sym q

pub turned-unique : (κs : Lfts 2) (a : Dens κs turned-kinds.ps) (x y : (res_t turned-kinds.r κs).Denot)
    (s t : AtExit (ended_of 2 turned-kinds.ps turned-kinds.r) κs) → turned-reads.Post κs a x s → turned-reads.Post κs a y t
    → (x ≡ y) × (s.1.1.0.now ≡ t.1.1.0.now)
turned-unique κs a x y s t p q = (p.0 ∙ sym q.0, p.1 ∙ sym q.1)

pub driver-numbers-unique : Unique driver-numbers-kinds.ps driver-numbers-kinds.r driver-numbers-reads.Post
driver-numbers-unique κs a x y s t p q = p ∙ sym q

pub driver-unique : Unique driver-kinds.ps driver-kinds.r driver-reads.Post
driver-unique κs a x y s t p q = p ∙ sym q

pub next-numbers-unique : Unique next-numbers-kinds.ps next-numbers-kinds.r next-numbers-reads.Post
next-numbers-unique κs a x y s t p q = p ∙ sym q

pub step-numbers-unique : Unique step-numbers-kinds.ps step-numbers-kinds.r step-numbers-reads.Post
step-numbers-unique κs a x y s t p q = p ∙ sym q

pub loading-numbers-unique : Unique loading-numbers-kinds.ps loading-numbers-kinds.r loading-numbers-reads.Post
loading-numbers-unique κs a x y s t p q = p ∙ sym q

pub loading-unique : Unique loading-kinds.ps loading-kinds.r loading-reads.Post
loading-unique κs a x y s t p q = p ∙ sym q

pub sending-numbers-unique : Unique sending-numbers-kinds.ps sending-numbers-kinds.r sending-numbers-reads.Post
sending-numbers-unique κs a x y s t p q = p ∙ sym q
