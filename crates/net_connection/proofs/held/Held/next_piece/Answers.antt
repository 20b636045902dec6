use Rattle.std.proofs.Common.{ap, arith, length}
use Rattle.net_hub.specs.declared.kind.Kind.TheVariants.{Dict}
use Rattle.net_connection.proofs.PieceLemmas.{piece_within}
use Rattle.net_connection.proofs.held.Held.next_piece.Goals as goal

pub returns-in-Dict-clause-few : goal.returns-in-Dict-clause-few
returns-in-Dict-clause-few c =
    let within = piece_within Dict c.split_at.result.1.now in
    omega (arith, ap length c.first_line.ensures, within, c.split_at.ensures.back_len, c.as_slice.ensures.len, c.args.self.now.few)
