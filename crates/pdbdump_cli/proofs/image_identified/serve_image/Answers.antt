use Rattle.std.proofs.Common.{refl}
use Rattle.pdbdump_cli.specs.Identified.{image, other, unread}
use Rattle.pdbdump_cli.proofs.image_identified.serve_image.Goals as goal

pub returns-in-Ok-Ok : goal.returns-in-Ok-Ok
returns-in-Ok-Ok g c = λ file is.
    image c.write_found-shown.new.out c.write_found-shown.result is c.write_found-shown.ensures c.conclude.ensures

pub returns-in-Ok-Err : goal.returns-in-Ok-Err
returns-in-Ok-Err g c = λ file is. other _ refl c.report.ensures refl

pub returns-in-Err : goal.returns-in-Err
returns-in-Err g c = λ file is. unread c.in-Err.fault refl c.tell.ensures
