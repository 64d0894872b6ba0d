-- `slots::stores::fill_up` meets its contract. Assumes nothing.
use Rattle.std.proofs.lemmas.List.{drop-replicate}
use Rattle.rack.specs.Bytes.{filled}
use Rattle.slots.proofs.stores.fill_up.Goals as goal

pub returns : goal.returns
unfolding filled
returns g c = rw (c.copy_from_slice.ensures.after, drop-replicate)
