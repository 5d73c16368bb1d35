use Rattle.std.proofs.Common.{refl}
use Rattle.pdbdump_cli.specs.Identified.{identified, other, unread}
use Rattle.pdbdump_cli.proofs.identified.serve_id.Goals as goal

pub returns-in-Err : goal.returns-in-Err
returns-in-Err g c = unread c.in-Err.fault refl c.tell.ensures

pub returns-in-Image : goal.returns-in-Image
returns-in-Image g c =
    let format = rw (c.of-format.ensures, c.as_slice.ensures) at c.in-Image.is in
    c.serve_image.ensures _ (_, c.in-Ok.ensures.front, format)

pub returns-in-Some : goal.returns-in-Some
returns-in-Some g c = other _ refl c.report.ensures refl

pub returns : goal.returns
returns g c = identified _ c.identify-identified.new.out c.identify-identified.result c.in-Ok.ensures.kept
    c.identify-identified.ensures c.conclude.ensures
