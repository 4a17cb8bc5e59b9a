use Rattle.std.proofs.Common.{◌≡◌, Ok}
use Rattle.link.proofs.Subframes.{piece_of_marker, piece_answer, piece_taken}
use Rattle.link.proofs.line.Line.write_piece.Goals as goal

pub returns-then-offset-lt7 : goal.returns-then-offset-lt7
returns-then-offset-lt7 g c =
    piece_of_marker c.args.self.now.settings c.args.place c.period-period.result c.period-period.ensures c.requires.within
    (g.M.Mapping.meaning c.args.self.now.mapping) c.args.memory.now c.write_marker_from.result c.args.out.now c.write_marker_from.new.out
    c.if-offset-lt7.true c.write_marker_from.ensures

pub unwrap-requires : goal.unwrap-requires
unwrap-requires g c =
    let e : c.write_line.result ≡ Ok c.min-size.result =
    piece_answer c.args.self.now.settings c.args.place c.period-period.result c.period-period.ensures c.requires.within
    (g.M.Mapping.meaning c.args.self.now.mapping) c.args.memory.now c.subframe_data.result c.min-size.result c.args.out.now
    c.write_line.new.out c.write_line.result c.subframe_data.ensures c.args.self.now.fits c.requires.memory_size c.if-offset-lt7.false c.min-size.ensures
    c.write_line.ensures in
    rw e

pub returns : goal.returns
returns g c =
    let told : c.write_line.result ≡ Ok c.unwrap.result = cc in
    piece_taken c.args.self.now.settings c.args.place c.period-period.result c.period-period.ensures c.requires.within
    (g.M.Mapping.meaning c.args.self.now.mapping) c.args.memory.now c.subframe_data.result c.min-size.result c.args.out.now
    c.write_line.new.out c.write_line.result c.subframe_data.ensures c.args.self.now.fits c.requires.memory_size c.if-offset-lt7.false c.min-size.ensures
    c.write_line.ensures c.unwrap.result told
