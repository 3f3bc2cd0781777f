-- `host::pomerassol_fetch` meets its contract: that of the fetch call over the lent record, packed.
-- Assumes nothing.
use Rattle.host.proofs.Packing.{burst_fits, burst_packs}
use Rattle.host.proofs.pomerassol_fetch.Goals as goal

pub pack_burst-requires : goal.pack_burst-requires
pack_burst-requires c = burst_fits _ _ _ _ _ _ _ _ _ _ c.requires.0.sound c.fetch_in.ensures

pub returns : goal.returns
returns c = burst_packs _ _ _ _ _ _ _ _ c.fetch_in.ensures c.pack_burst.ensures
