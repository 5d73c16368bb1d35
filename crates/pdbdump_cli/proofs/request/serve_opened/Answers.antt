use Rattle.std.proofs.Common.{refl}
use Rattle.pdbdump_cli.proofs.request.serve_opened.Goals as goal

pub returns-in-List : goal.returns-in-List
returns-in-List g c = rw c.in-List.is (record {
  written = c.list-listed.new.out;
  told = c.list-listed.new.err;
  answer = c.list-listed.result;
  does = record { does = c.list-listed.ensures.does; told = c.list-listed.ensures.told };
  ends = c.end_as.ensures;
})

pub returns-in-Identify : goal.returns-in-Identify
returns-in-Identify g c = rw c.in-Identify.is c.serve_id.ensures

pub returns-in-Validate : goal.returns-in-Validate
returns-in-Validate g c = rw c.in-Validate.is c.judge.ensures

pub returns-in-Layout : goal.returns-in-Layout
returns-in-Layout g c = rw c.in-Layout.is (record {
  written = c.show_in-shown.new.out;
  told = c.show_in-shown.new.err;
  answer = c.show_in-shown.result;
  does = c.show_in-shown.ensures;
  ends = c.end_as-in-Layout.ensures;
})

pub returns-in-Declare : goal.returns-in-Declare
returns-in-Declare g c = rw c.in-Declare.is (record {
  written = c.declare_in-declared.new.out;
  told = c.declare_in-declared.new.err;
  answer = c.declare_in-declared.result;
  does = c.declare_in-declared.ensures;
  ends = c.end_as-in-Declare.ensures;
})

pub returns-in-Select : goal.returns-in-Select
returns-in-Select g c = rw c.in-Select.is (record {
  written = c.select_in-listed.new.out;
  told = c.select_in-listed.new.err;
  answer = c.select_in-listed.result;
  does = record { lists = c.select_in-listed.ensures.lists; accounts = c.select_in-listed.ensures.reported };
  ends = c.end_as-in-Select.ensures;
})

pub returns-in-Locate : goal.returns-in-Locate
returns-in-Locate g c = rw c.in-Locate.is (record {
  written = c.locate_in-located.new.out;
  told = c.locate_in-located.new.err;
  answer = c.locate_in-located.result;
  does = c.locate_in-located.ensures;
  ends = c.end_as-in-Locate.ensures;
})

pub returns-in-Match : goal.returns-in-Match
returns-in-Match g c = rw c.in-Match.is (record {
  written = c.match_in-matched.new.out;
  told = c.args.err.now;
  answer = c.match_in-matched.result;
  does = record { shows = c.match_in-matched.ensures; silent = refl };
  ends = c.end_as-in-Match.ensures;
})
