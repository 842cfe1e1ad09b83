-- Each exported function's promise determines its result: any two results that it allows are equal. Stated on the promise that is made from the source.
use mathlib.Core.Path.{sym, ◌∙◌}
use Rattle.parts.proofs.Unique.{Unique}
use Rattle.parts.proofs.refusal.Refusal.number.Kinds as number-kinds
use Rattle.parts.proofs.refusal.Refusal.number.Reads as number-reads
use Rattle.parts.proofs.width.value.Kinds as value-kinds
use Rattle.parts.proofs.width.value.Reads as value-reads
use Rattle.parts.proofs.width.blank.Kinds as blank-kinds
use Rattle.parts.proofs.width.blank.Reads as blank-reads
use Rattle.parts.proofs.width.fits.Kinds as fits-kinds
use Rattle.parts.proofs.width.fits.Reads as fits-reads
use Rattle.parts.proofs.table.Row.has_command.Kinds as has-command-kinds
use Rattle.parts.proofs.table.Row.has_command.Reads as has-command-reads
use Rattle.parts.proofs.span.Span.holds.Kinds as holds-kinds
use Rattle.parts.proofs.span.Span.holds.Reads as holds-reads
use Rattle.parts.proofs.table.Row.sector_size.Kinds as sector-size-kinds
use Rattle.parts.proofs.table.Row.sector_size.Reads as sector-size-reads
use Rattle.parts.proofs.table.Row.sector_of.Kinds as sector-of-kinds
use Rattle.parts.proofs.table.Row.sector_of.Reads as sector-of-reads
use Rattle.parts.proofs.table.Row.has_blocks.Kinds as has-blocks-kinds
use Rattle.parts.proofs.table.Row.has_blocks.Reads as has-blocks-reads
use Rattle.parts.proofs.table.Row.block_of.Kinds as block-of-kinds
use Rattle.parts.proofs.table.Row.block_of.Reads as block-of-reads
use Rattle.parts.proofs.table.Row.protected_range.Kinds as protected-range-kinds
use Rattle.parts.proofs.table.Row.protected_range.Reads as protected-range-reads
use Rattle.parts.proofs.table.Row.time.Kinds as time-kinds
use Rattle.parts.proofs.table.Row.time.Reads as time-reads
use Rattle.parts.proofs.time.is_interval.Kinds as is-interval-kinds
use Rattle.parts.proofs.time.is_interval.Reads as is-interval-reads
use Rattle.parts.proofs.time.rounded_up.Kinds as rounded-up-kinds
use Rattle.parts.proofs.time.rounded_up.Reads as rounded-up-reads

pub number-unique : Unique number-kinds.ps number-kinds.r number-reads.Post
number-unique κs a x y s t p q = p ∙ sym q

pub value-unique : Unique value-kinds.ps value-kinds.r value-reads.Post
value-unique κs a x y s t p q = p ∙ sym q

pub blank-unique : Unique blank-kinds.ps blank-kinds.r blank-reads.Post
blank-unique κs a x y s t p q = p ∙ sym q

pub holds-unique : Unique holds-kinds.ps holds-kinds.r holds-reads.Post
holds-unique κs a x y s t p q = p ∙ sym q

pub sector-size-unique : Unique sector-size-kinds.ps sector-size-kinds.r sector-size-reads.Post
sector-size-unique κs a x y s t p q = p ∙ sym q

pub sector-of-unique : Unique sector-of-kinds.ps sector-of-kinds.r sector-of-reads.Post
sector-of-unique κs a x y s t p q = p ∙ sym q

pub has-blocks-unique : Unique has-blocks-kinds.ps has-blocks-kinds.r has-blocks-reads.Post
has-blocks-unique κs a x y s t p q = p ∙ sym q

pub block-of-unique : Unique block-of-kinds.ps block-of-kinds.r block-of-reads.Post
block-of-unique κs a x y s t p q = p ∙ sym q

pub protected-range-unique : Unique protected-range-kinds.ps protected-range-kinds.r protected-range-reads.Post
protected-range-unique κs a x y s t p q = p ∙ sym q

pub time-unique : Unique time-kinds.ps time-kinds.r time-reads.Post
time-unique κs a x y s t p q = p ∙ sym q

pub is-interval-unique : Unique is-interval-kinds.ps is-interval-kinds.r is-interval-reads.Post
is-interval-unique κs a x y s t p q = p ∙ sym q

pub rounded-up-unique : Unique rounded-up-kinds.ps rounded-up-kinds.r rounded-up-reads.Post
rounded-up-unique κs a x y s t p q = p ∙ sym q

pub fits-unique : Unique fits-kinds.ps fits-kinds.r fits-reads.Post
fits-unique κs a x y s t p q = p ∙ sym q

pub has-command-unique : Unique has-command-kinds.ps has-command-kinds.r has-command-reads.Post
has-command-unique κs a x y s t p q = p ∙ sym q
