-- Each exported function's promise determines its result and what the lent slice holds afterwards: any two outcomes that it
-- allows are equal. Stated on the promise that is made from the source.
use mathlib.Core.Path.{◌≡◌, sym, ◌∙◌}
use contract.Lifetimes.{Lfts}
use borrow.Fn.Kinds.{Dens, ended_of, res_t}
use denote.Triple.Clauses.{AtExit}
use Rattle.parts.proofs.Unique.{Unique}
use Rattle.bus.proofs.cycle.OperationNumbersFromOperation.from.Kinds as operation-numbers-kinds
use Rattle.bus.proofs.cycle.OperationNumbersFromOperation.from.Reads as operation-numbers-reads
use Rattle.bus.proofs.cycle.DeviceNumbersFromDevice.from.Kinds as device-numbers-kinds
use Rattle.bus.proofs.cycle.DeviceNumbersFromDevice.from.Reads as device-numbers-reads
use Rattle.bus.proofs.cycle.OperationFromOperationNumbers.from.Kinds as operation-kinds
use Rattle.bus.proofs.cycle.OperationFromOperationNumbers.from.Reads as operation-reads
use Rattle.bus.proofs.cycle.DeviceFromDeviceNumbers.from.Kinds as device-kinds
use Rattle.bus.proofs.cycle.DeviceFromDeviceNumbers.from.Reads as device-reads
use Rattle.bus.proofs.cycle.cycled.Kinds as cycled-kinds
use Rattle.bus.proofs.cycle.cycled.Reads as cycled-reads

pub cycled-unique : (κs : Lfts 1) (a : Dens κs cycled-kinds.ps) (x y : (res_t cycled-kinds.r κs).Denot)
    (s t : AtExit (ended_of 1 cycled-kinds.ps cycled-kinds.r) κs) → cycled-reads.Post κs a x s → cycled-reads.Post κs a y t
    → (x ≡ y) × (s.1.0.now ≡ t.1.0.now)
cycled-unique κs a x y s t p q = (p.0 ∙ sym q.0, p.1 ∙ sym q.1)

pub operation-numbers-unique : Unique operation-numbers-kinds.ps operation-numbers-kinds.r operation-numbers-reads.Post
operation-numbers-unique κs a x y s t p q = p ∙ sym q

pub device-numbers-unique : Unique device-numbers-kinds.ps device-numbers-kinds.r device-numbers-reads.Post
device-numbers-unique κs a x y s t p q = p ∙ sym q

pub operation-unique : Unique operation-kinds.ps operation-kinds.r operation-reads.Post
operation-unique κs a x y s t p q = p ∙ sym q

pub device-unique : Unique device-kinds.ps device-kinds.r device-reads.Post
device-unique κs a x y s t p q = p ∙ sym q
