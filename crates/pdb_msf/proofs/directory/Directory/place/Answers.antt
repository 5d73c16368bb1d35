use Rattle.std.proofs.Common.{ℕ, ap, sym, ◌∙◌, arith, Ok}
use Rattle.pdb_msf.proofs.PlaceLemmas.{has_size, start_is, start_within, stands, unreached}
use Rattle.pdb_msf.proofs.directory.Directory.place.Goals as goal

pub index-start-requires : goal.index-start-requires
index-start-requires c =
    let n = c.args.stream_number in
    let d = c.args.self.now.bytes.items in
    let sized = has_size n d _ _ c.in_ok-count.ensures c.if-stream_number-count.false c.in_ok-size.ensures in
    let within = start_within c.args.page_size n d c.args.self.now.starts.items _ _ c.requires.starts sized in
    omega (arith, within, c.args.self.now.starts.ok.0)

pub returns-then-start-len-clause-place : goal.returns-then-start-len-clause-place
returns-then-start-len-clause-place c =
    let n = c.args.stream_number in
    let d = c.args.self.now.bytes.items in
    let sized = has_size n d _ _ c.in_ok-count.ensures c.if-stream_number-count.false c.in_ok-size.ensures in
    let here = c.index-start.ensures ∙ start_is c.args.page_size n d c.args.self.now.starts.items _ _
    c.index-start.result.now c.requires.starts sized in
    unreached c.args.page_size n d _ _ sized c.if-size.false
    (omega (arith, here, c.len.ensures, c.if-start-len.true, c.args.self.now.bytes.ok.0))

pub returns-clause-place : goal.returns-clause-place
returns-clause-place c =
    let n = c.args.stream_number in
    let d = c.args.self.now.bytes.items in
    let sized = has_size n d _ _ c.in_ok-count.ensures c.if-stream_number-count.false c.in_ok-size.ensures in
    let here = c.index-start.ensures ∙ start_is c.args.page_size n d c.args.self.now.starts.items _ _
    c.index-start.result.now c.requires.starts sized in
    stands c.args.page_size n d _ _ sized c.if-size.false
    (omega (arith, here, c.len.ensures, c.if-start-len.false, c.args.self.now.bytes.ok.0))
    ∙ ap (λ (k : ℕ). Ok (record { size = c.in_ok-size.size; start = k })) (sym here)
