use Rattle.std.proofs.Common.{ap, sym, ◌∙◌, arith}
use Rattle.text_host.specs.Held.{written}
use Rattle.text_host.specs.Lines.{decoded}
use Rattle.text_host.proofs.Lines.{line_short, lines_more, said_more}
use Rattle.text_host.proofs.hosting.TextHostHost.put.Goals as goal

pub invariant_of-self : goal.invariant_of-self
invariant_of-self c =
    let host = c.args.self.now in
    record {
      readable = host.readable;
      space = omega (arith, host.space, line_short c.args.value (sym c.in_ok-judge.ensures));
      lines = rw c.write_line-self.ensures.text (lines_more (written host) host.lines c.args.value (sym c.in_ok-judge.ensures));
    }

pub returns-clause-more_said : goal.returns-clause-more_said
returns-clause-more_said c =
    let host = c.args.self.now in
    ap decoded c.write_line-self.ensures.text ∙ said_more (written host) host.lines c.args.value (sym c.in_ok-judge.ensures)
