-- What is told of a command's writes, or of one of them, is told of no other result.
use Rattle.std.specs.Prelude.{◌≡◌, Result, Ok, Err}
use mathlib.Core.Path.{ap, sym}
use Rattle.parts.specs.declared.refusal.Refusal.{Refusal}
use Rattle.parts.proofs.Told.{number_of-injective, number_of-positive}
use Rattle.commands.specs.declared.write.Write.{Write}
use Rattle.driver.specs.declared.writes.Writes.{Writes as Named}
use Rattle.driver.specs.Writes.{Writes, Kth, told_writes, told_write}

pub told_writes-injective : (r s : Result Named Refusal) → told_writes r ≡ told_writes s → r ≡ s
told_writes-injective (Ok x) (Ok y) h = ap (λ (w : Writes). Ok (record { count = w.count; writes = w.writes })) h
told_writes-injective (Ok x) (Err f) h = absurd (number_of-positive f (sym (ap (λ (w : Writes). w.answer) h)))
told_writes-injective (Err e) (Ok y) h = absurd (number_of-positive e (ap (λ (w : Writes). w.answer) h))
told_writes-injective (Err e) (Err f) h = ap Err (number_of-injective e f (ap (λ (w : Writes). w.answer) h))

pub told_write-injective : (r s : Result Write Refusal) → told_write r ≡ told_write s → r ≡ s
told_write-injective (Ok x) (Ok y) h = ap (λ (w : Kth). Ok (record { address = w.address; «data» = w.«data» })) h
told_write-injective (Ok x) (Err f) h = absurd (number_of-positive f (sym (ap (λ (w : Kth). w.answer) h)))
told_write-injective (Err e) (Ok y) h = absurd (number_of-positive e (ap (λ (w : Kth). w.answer) h))
told_write-injective (Err e) (Err f) h = ap Err (number_of-injective e f (ap (λ (w : Kth). w.answer) h))
