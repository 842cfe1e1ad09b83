-- What an export promises is what the function that it calls promises, as both are made from their sources: so what is said of the library's
-- functions (crate demands) holds of what C calls.
use Rattle.std.proofs.Common.{◌≡◌, refl}
use Rattle.alone.proofs.station_load_alone.Reads as load-alone-called
use Rattle.alone_c.proofs.station_load_alone.Reads as load-alone-exported

pub load-alone-promises : load-alone-exported.Post ≡ load-alone-called.Post
load-alone-promises = refl
