-- What an export promises is what the function that it calls promises, as both are made from their sources: so what is said of the library's
-- functions (crate demands) holds of what C calls.
use Rattle.std.proofs.Common.{◌≡◌, refl}
use Rattle.station.proofs.station_fresh.Reads as fresh-called
use Rattle.station_c.proofs.cycle.station_fresh.Reads as fresh-exported
use Rattle.station.proofs.station_read.Reads as read-called
use Rattle.station_c.proofs.cycle.station_read.Reads as read-exported
use Rattle.station.proofs.station_write.Reads as write-called
use Rattle.station_c.proofs.cycle.station_write.Reads as write-exported
use Rattle.station.proofs.station_idle.Reads as idle-called
use Rattle.station_c.proofs.cycle.station_idle.Reads as idle-exported
use Rattle.station.proofs.station_cut.Reads as cut-called
use Rattle.station_c.proofs.cycle.station_cut.Reads as cut-exported
use Rattle.station.proofs.station_figure.Reads as figure-called
use Rattle.station_c.proofs.figures.station_figure.Reads as figure-exported
use Rattle.station.proofs.station_figure_answer.Reads as figure-answer-called
use Rattle.station_c.proofs.figures.station_figure_answer.Reads as figure-answer-exported
use Rattle.station.proofs.station_write_address.Reads as write-address-called
use Rattle.station_c.proofs.figures.station_write_address.Reads as write-address-exported
use Rattle.station.proofs.station_write_data.Reads as write-data-called
use Rattle.station_c.proofs.figures.station_write_data.Reads as write-data-exported
use Rattle.station.proofs.station_write_answer.Reads as write-answer-called
use Rattle.station_c.proofs.figures.station_write_answer.Reads as write-answer-exported
use Rattle.station.proofs.station_job.Reads as job-called
use Rattle.station_c.proofs.file.station_job.Reads as job-exported
use Rattle.station.proofs.station_image.Reads as image-called
use Rattle.station_c.proofs.file.station_image.Reads as image-exported
use Rattle.station.proofs.station_bill.Reads as bill-called
use Rattle.station_c.proofs.file.station_bill.Reads as bill-exported
use Rattle.station.proofs.station_load.Reads as load-called
use Rattle.station_c.proofs.load.station_load.Reads as load-exported
use Rattle.station.proofs.station_load_first.Reads as load-first-called
use Rattle.station_c.proofs.load.station_load_first.Reads as load-first-exported
use Rattle.station.proofs.station_begin.Reads as begin-called
use Rattle.station_c.proofs.loading.station_begin.Reads as begin-exported
use Rattle.station.proofs.station_turn.Reads as turn-called
use Rattle.station_c.proofs.loading.station_turn.Reads as turn-exported
use Rattle.station.proofs.station_start.Reads as start-called
use Rattle.station_c.proofs.machine.station_start.Reads as start-exported
use Rattle.station.proofs.station_step.Reads as step-called
use Rattle.station_c.proofs.machine.station_step.Reads as step-exported

pub fresh-promises : fresh-exported.Post ≡ fresh-called.Post
fresh-promises = refl

pub read-promises : read-exported.Post ≡ read-called.Post
read-promises = refl

pub write-promises : write-exported.Post ≡ write-called.Post
write-promises = refl

pub idle-promises : idle-exported.Post ≡ idle-called.Post
idle-promises = refl

pub cut-promises : cut-exported.Post ≡ cut-called.Post
cut-promises = refl

pub figure-promises : figure-exported.Post ≡ figure-called.Post
figure-promises = refl

pub figure-answer-promises : figure-answer-exported.Post ≡ figure-answer-called.Post
figure-answer-promises = refl

pub write-address-promises : write-address-exported.Post ≡ write-address-called.Post
write-address-promises = refl

pub write-data-promises : write-data-exported.Post ≡ write-data-called.Post
write-data-promises = refl

pub write-answer-promises : write-answer-exported.Post ≡ write-answer-called.Post
write-answer-promises = refl

pub job-promises : job-exported.Post ≡ job-called.Post
job-promises = refl

pub image-promises : image-exported.Post ≡ image-called.Post
image-promises = refl

pub bill-promises : bill-exported.Post ≡ bill-called.Post
bill-promises = refl

pub load-promises : load-exported.Post ≡ load-called.Post
load-promises = refl

pub load-first-promises : load-first-exported.Post ≡ load-first-called.Post
load-first-promises = refl

pub begin-promises : begin-exported.Post ≡ begin-called.Post
begin-promises = refl

pub turn-promises : turn-exported.Post ≡ turn-called.Post
turn-promises = refl

pub start-promises : start-exported.Post ≡ start-called.Post
start-promises = refl

pub step-promises : step-exported.Post ≡ step-called.Post
step-promises = refl
