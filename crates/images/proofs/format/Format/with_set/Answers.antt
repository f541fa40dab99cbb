use Rattle.images.proofs.Bits.{fuse_sets, flash_sets}
use Rattle.images.proofs.format.Format.with_set.Goals as goal

pub returns-in-Fuse : goal.returns-in-Fuse
returns-in-Fuse c = rw c.in-Fuse.is (fuse_sets c.args.k c.args.byte c.requires)

pub returns-in-Flash : goal.returns-in-Flash
returns-in-Flash c = rw c.in-Flash.is (flash_sets c.args.k c.args.byte c.requires)
