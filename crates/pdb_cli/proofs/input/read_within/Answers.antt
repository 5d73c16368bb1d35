use Rattle.std.proofs.Common.{◌≡◌, ℕ, ◌<◌, ◌++◌, List, Option, Result, Ok, sym, ap, subst, ◌∙◌, arith, rules}
use Rattle.std.proofs.Common.{length, take}
use denote.Enum.Bare.{same_false}
use Rattle.std.specs.contracts.io.ErrorKind.{the_type}
use Rattle.std.specs.declared.io.ErrorKind.TheVariants.{Interrupted}
use Rattle.std.specs.Global.{Vec}
use Rattle.std.specs.declared.io.Error.{Error}
use Rattle.std.specs.Io.KnownBytes.{Consumes, ReadConsumes}
use Rattle.std.proofs.KnownBytes.{Consumes-nil, Consumes-trans, Consumes-kept}
use Rattle.pdb_cli.specs.Channels.{IsUnread}
use Rattle.pdb_cli.proofs.InputLemmas.{read_whole, block_read}
use Rattle.pdb_cli.proofs.input.read_within.Goals.{in-Ok+in_ok-extend_from_slice-in-Ok, in-Err}
use Rattle.pdb_cli.proofs.input.read_within.Goals as goal

pub loop-init : goal.loop-init
loop-init g c = record {
  room = c.in_ok-block.ensures.len;
  read = subst (Consumes _ _) (sym c.new-bytes.ensures.items) (Consumes-nil _);
}

-- a read with room that gives nothing
nothing_read : (old new : Option (List ℕ)) (result : Result ℕ Error) (block : List ℕ) → result ≡ Ok 0
    → ReadConsumes old new result block → ReadConsumes {E = Error} old new (Ok 0) block
nothing_read old new result block is read = subst (λ (r : Result ℕ Error). ReadConsumes old new r block) is read

pub returns-in-Ok-eq0-clause-bytes : goal.returns-in-Ok-eq0-clause-bytes
returns-in-Ok-eq0-clause-bytes g c =
    let long : length c.read.new.buf ≡ 65_536 = search rules in
    let some : 0 < length c.read.new.buf = omega (arith, long) in
    let read = nothing_read _ _ _ _ (c.in-Ok-eq0.is ∙ ap Ok c.in-Ok-eq0.field-0-test) c.read.ensures.bytes in
    read_whole Error _ _ _ _ _ some c.loop.invariant.read read

pub loop-preserved : goal.loop-preserved
loop-preserved g c =
    elim c.match-read.branch [
      | in-Ok+in_ok-extend_from_slice-in-Ok w ↦
          let long : length c.read.new.buf ≡ 65_536 = search rules in
          let block = block_read c.loop.block.len c.read.new.buf _ (long ∙ sym c.loop.invariant.room) in
          let more : c.match-read.bytes.items ≡ c.loop.bytes.items ++ take w.in-Ok.count c.read.new.buf =
          ap (λ (b : Vec ℕ). b.items) w.bytes-is ∙ w.in_ok-extend_from_slice-in-Ok.ensures.items
          ∙ ap (λ (bytes : List ℕ). c.loop.bytes.items ++ take w.in-Ok.count bytes) (w.deref.ensures.value ∙ block) in
          record {
            room = c.loop.invariant.room;
            read = subst (Consumes _ _) (sym more) (Consumes-trans _ _ _ _ _ c.loop.invariant.read
                w.in-Ok.ensures.bytes.0);
          }
      | in-Err w ↦
          let same : c.match-read.bytes.items ≡ c.loop.bytes.items = ap (λ (b : Vec ℕ). b.items) w.bytes-is in
          record {
            room = c.loop.invariant.room;
            read = subst (Consumes _ _) (sym same) (Consumes-kept _ _ _ _ c.loop.invariant.read w.in-Err.ensures.bytes);
          }
    ]

-- a fault that is no interruption is a reason not to have read
pub returns-in-Err-2-clause-refused : goal.returns-in-Err-2-clause-refused
returns-in-Err-2-clause-refused g c =
    subst IsUnread (sym c.into.ensures) (λ is. same_false the_type c.kind.result Interrupted (sym c.if-eq.ensures)
    (c.kind.ensures ∙ is))
