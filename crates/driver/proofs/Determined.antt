-- Each exported function's promise determines its result: any two results that it allows are equal. Stated on the promise that is made from the source.
use mathlib.Core.Path.{sym, ◌∙◌}
use Rattle.parts.proofs.Unique.{Unique}
use Rattle.driver.proofs.Told.{told_writes-injective, told_write-injective}
use Rattle.driver.proofs.writes.command_writes.Kinds as command-writes-kinds
use Rattle.driver.proofs.writes.command_writes.Reads as command-writes-reads
use Rattle.driver.proofs.writes.kth_write.Kinds as kth-write-kinds
use Rattle.driver.proofs.writes.kth_write.Reads as kth-write-reads
use Rattle.driver.proofs.machine.start.Kinds as start-kinds
use Rattle.driver.proofs.machine.start.Reads as start-reads
use Rattle.driver.proofs.machine.start_writing.Kinds as start-writing-kinds
use Rattle.driver.proofs.machine.start_writing.Reads as start-writing-reads
use Rattle.driver.proofs.machine.Driver.step.Kinds as step-kinds
use Rattle.driver.proofs.machine.Driver.step.Reads as step-reads

pub command-writes-unique : Unique command-writes-kinds.ps command-writes-kinds.r command-writes-reads.Post
command-writes-unique κs a x y s t p q = told_writes-injective x y (p ∙ sym q)

pub kth-write-unique : Unique kth-write-kinds.ps kth-write-kinds.r kth-write-reads.Post
kth-write-unique κs a x y s t p q = told_write-injective x y (p ∙ sym q)

pub start-unique : Unique start-kinds.ps start-kinds.r start-reads.Post
start-unique κs a x y s t p q = p ∙ sym q

pub start-writing-unique : Unique start-writing-kinds.ps start-writing-kinds.r start-writing-reads.Post
start-writing-unique κs a x y s t p q = p ∙ sym q

pub step-unique : Unique step-kinds.ps step-kinds.r step-reads.Post
step-unique κs a x y s t p q = p ∙ sym q
