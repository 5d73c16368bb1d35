use Rattle.memchr.specs.Find.{Passes, is_byte}
use Rattle.pdb_base.proofs.NulLemmas.{none_marked, first_marked}
use Rattle.pdb_base.proofs.nul.place_among.Goals as goal

pub returns-then-nuls-eq0 : goal.returns-then-nuls-eq0
returns-then-nuls-eq0 g c =
    none_marked (Passes (is_byte 0) c.args.bytes.now) c.nuls_among.result c.args.start c.args.skipped g.row.WIDTH
    c.nuls_among.ensures c.if-nuls-eq0.true

pub returns : goal.returns
returns g c =
    first_marked (Passes (is_byte 0) c.args.bytes.now) c.nuls_among.result c.args.start c.args.skipped g.row.WIDTH
    c.nuls_among.ensures c.if-nuls-eq0.false c.nuls_among.type_inv
