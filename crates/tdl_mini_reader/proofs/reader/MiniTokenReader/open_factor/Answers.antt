use Rattle.std.proofs.Common.{sym, ◌∙◌}
use Rattle.tdl_mini_reader.specs.TokenView.{tok_value}
use Rattle.tdl_mini_reader.specs.ReaderView.{state_of}
use Rattle.tdl_mini_reader.proofs.ReaderLemmas.{open_wanting, refusal_by, if_err, on_ok}
use Rattle.tdl_mini_reader.proofs.reader.MiniTokenReader.open_factor.Goals as goal

pub returns : goal.returns
returns c =
    let is = sym c.replace.ensures.value ∙ c.in-Wanting.is in
    rw c.replace.ensures.after (record {
      ok = on_ok c.open.result
          (λ h trees. open_wanting trees (state_of trees c.args.self.now c.args.stage.now) (tok_value c.args.tok.now) c.args.bracket c.args.stage.now _ _ is
          ∙ h c.args.stage.now trees) c.open.ensures.ok;
      nests = c.open.ensures.nests;
      err = if_err c.open.result
          (λ fault h trees. refusal_by _ _ fault
          (open_wanting trees (state_of trees c.args.self.now c.args.stage.now) (tok_value c.args.tok.now) c.args.bracket c.args.stage.now _ _ is)
          (h c.args.stage.now trees)) c.open.ensures.err;
    })
