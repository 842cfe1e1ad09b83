-- The states of the exported loader: in range, or a turn answers them with 5.
use Rattle.std.specs.Prelude.{None}
use Prim.Native.Nat.{ℕ, ◌≤◌}
use mathlib.Core.Path.{◌≡◌, ap}
use mathlib.Core.Bool.{Bool, true, false}
use mathlib.Core.List.{List}
use native.Mathlib.Omega.{arith}
use borrow.Author.Tests.{eq-eqb, ne_eqb, eqb-true}
use lib.Dec.{eqb}
use lib.ListN.{length}
use Rattle.parts.specs.Table.{row_of}
use Rattle.parts.proofs.Every.{both}
use Rattle.parts.proofs.Sound.{width-most, cells-most}
use Rattle.parts.proofs.Ranges.{sector-some}
use Rattle.driver.specs.declared.machine.Driver.{Driver}
use Rattle.job.specs.declared.loader.Job.{Job}
use Rattle.job.specs.declared.loading.Progress.{Progress}
use Rattle.job.specs.declared.loading.Loading.{Loading}
use Rattle.job.specs.Fits.{JobFits}
use Rattle.request.specs.Refusal.{begin_refusal, standing_refusal}
use Rattle.request.proofs.Accepts.{standing, none-stands}
use Rattle.job.specs.Loading.{same_asked, progress_in_range, job_in, loading_in_range, load_turn, load_turned, progress_of, load_turn_of, job_turn}
use Rattle.job.proofs.Accepts.{sector-most}

-- an image that a begin takes is a part's at most
pub begun-few : (part first : ℕ) (image : List ℕ) (wp : Bool) (p : ℕ) → begin_refusal part first image wp p ≡ 0 → length image ≤ 4194304
begun-few part first image wp p z =
    let s = standing part first (length image) wp p (none-stands part first image wp p z).0 in
    omega (arith, s.range, cells-most part s.known)

-- two drivers of one part, command, address and data ask for the same where their p is one
pub asked-same : (d e : Driver) → d.part ≡ e.part → d.command ≡ e.command → d.address ≡ e.address → d.«data» ≡ e.«data» → same_asked d e ≡ eqb d.p e.p
unfolding same_asked
asked-same d e a b c f = simp (eq-eqb d.part e.part a, eq-eqb d.command e.command b, eq-eqb d.address e.address c, eq-eqb d.«data» e.«data» f)

-- what two drivers that ask for the same have in common
pub record Alike (d e : Driver) : Type 0 where
  pub part : d.part ≡ e.part
  pub command : d.command ≡ e.command
  pub address : d.address ≡ e.address
  pub word : d.«data» ≡ e.«data»

pub alike : (d e : Driver) → same_asked d e ≡ true → Alike d e
unfolding same_asked
alike d e h =
    let a = both (eqb d.part e.part) _ h in
    let b = both (eqb d.command e.command) _ a.1 in
    let c = both (eqb d.address e.address) _ b.1 in
    let f = both (eqb d.«data» e.«data») _ c.1 in
    record { part = eqb-true _ _ a.0; command = eqb-true _ _ b.0; address = eqb-true _ _ c.0; word = eqb-true _ _ f.0 }

-- ---- a turn, by how far the job is
module _ (g : Loading) (j : Job) (image seen : List ℕ) (read : ℕ) where
  pub goes_by : (x : Progress) → g.progress ≡ x → progress_in_range j image g.progress ≡ true → job_turn g j image seen read ≡ progress_of g j image seen x read
  unfolding job_turn
  goes_by x e t = rw t (ap (λ (x : Progress). progress_of g j image seen x read) e)

-- ---- a turn, by what was asked
module _ (g : Loading) (image : List ℕ) where
  abbrev refused : ℕ
  refused = standing_refusal g.part g.first g.count g.wp g.p

  module _ (seen : List ℕ) (read : ℕ) where
    pub out_of_range : (refused ≡ 0 → ⊥) → load_turn_of g image seen read ≡ load_turned seen (load_turn 5 g None)
    unfolding load_turn_of loading_in_range
    out_of_range n = simp (ne_eqb refused 0 n)

    pub turns-job : refused ≡ 0 → g.count ≡ length image → load_turn_of g image seen read ≡ job_turn g (job_in g) image seen read
    unfolding load_turn_of loading_in_range job_turn
    turns-job z e = simp (z, eq-eqb g.count (length image) e)

  pub job-fits : refused ≡ 0 → g.count ≡ length image → JobFits (job_in g) (length image)
  job-fits z e =
      let s = standing g.part g.first g.count g.wp g.p z in
      record {
        count = e;
        range = omega (arith, s.range, cells-most g.part s.known);
        some = sector-some (row_of g.part).width;
        most = sector-most (row_of g.part).width;
        narrow = width-most g.part s.known;
      }

-- what the check proves a begin and a turn by
pub ruleset begun = (begun-few)

pub ruleset fits = (job-fits)
