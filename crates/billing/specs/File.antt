-- The bill of a job file: refused with 13, or that of its job on a blank bench part.
use Rattle.std.specs.Prelude.{ℕ, List, ltb, length, replicate}
use Rattle.parts.specs.Names.{BAD-FILE}
use Rattle.parts.specs.Pick.{◌when◌, ◌else◌}
use Rattle.job.specs.declared.bill.Bill.{Bill}
use Rattle.job.specs.Bill.{load_of, refused_bill}
use Rattle.jobfile.specs.declared.trailer.JobFile.{JobFile}
use Rattle.jobfile.specs.JobFile.{malformed, job_of, values_of}

-- a blank bench part
abbrev pub blank_bench : List ℕ
blank_bench = replicate 8192 0xffff

-- the bill of the job that a file asks for
abbrev pub bill_of_job : List ℕ → JobFile → Bill
bill_of_job file j = (load_of j.part blank_bench j.first (values_of file j.start j.count) j.wp j.p).bill

-- 13 for a file of more than 20,480 bytes, or malformed; then the job's own refusals
unfoldable pub bill_of_file : List ℕ → Bill
bill_of_file file =
    refused_bill BAD-FILE when ltb 20480 (length file)
    else refused_bill BAD-FILE when malformed file
    else bill_of_job file (job_of file)
