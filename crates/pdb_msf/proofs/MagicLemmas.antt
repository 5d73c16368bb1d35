-- The source's constants are the bytes of the formats.
use Rattle.std.proofs.Common.{◌≡◌, refl}
use Rattle.pdb_msf.specs.Header.{big_magic, small_magic}
use Rattle.pdb_msf.specs.declared.magic.big.TheConstants as big
use Rattle.pdb_msf.specs.declared.magic.small.TheConstants as small

pub is_big : big.MAGIC.now ≡ big_magic
unfolding big_magic
is_big = refl

pub is_small : small.MAGIC.now ≡ small_magic
unfolding small_magic
is_small = refl
