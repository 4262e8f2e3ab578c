-- `rules::tables::TermTables::token` meets its contract: by the kind and the count.
use Rattle.terms.proofs.Laws.{head_free}
use Rattle.rules.proofs.Meaning.{call_headed, head_within, token_call, token_free, token_more, token_other}
use Rattle.rules.proofs.Rules.{token_is, token_not}
use Rattle.rules.specs.Choices.{Within}
use mathlib.Core.Path.{◌∙◌, sym}
use Rattle.rules.proofs.tables.TermTables.token.Goals as goal

pub returns-then-kind-eq-FREE : goal.returns-then-kind-eq-FREE
unfolding Within
returns-then-kind-eq-FREE c =
    record { token = token_is _ _ _ (token_free c.args.self.now.tables c.requires (sym c.kind-kind.ensures ∙ c.if-kind-eq-FREE.true) c.head.ensures) c.head.ensures; within = head_within c.args.self.now.tables c.requires (head_free _ (sym c.kind-kind.ensures ∙ c.if-kind-eq-FREE.true)) c.head.ensures }

pub returns-then-kind-ne-CALL : goal.returns-then-kind-ne-CALL
unfolding Within
returns-then-kind-ne-CALL c =
    record {
      token = token_not _ _ _ (token_other c.args.self.now.tables c.requires (λ e. c.if-kind-eq-FREE.false (c.kind-kind.ensures ∙ e))
          (λ e. c.if-kind-ne-CALL.true (c.kind-kind.ensures ∙ e)));
      within = tt;
    }

pub returns-then-count-ne0 : goal.returns-then-count-ne0
unfolding Within
returns-then-count-ne0 c =
    record {
      token = token_not _ _ _ (token_more c.args.self.now.tables c.requires (sym c.kind-kind.ensures ∙ c.if-kind-ne-CALL.false)
          (λ e. c.if-count-ne0.true (c.count.ensures ∙ e)));
      within = tt;
    }

pub returns : goal.returns
unfolding Within
returns c =
    record {
      token = token_is _ _ _ (token_call c.args.self.now.tables c.requires (sym c.kind-kind.ensures ∙ c.if-kind-ne-CALL.false)
          (sym c.count.ensures ∙ c.if-count-ne0.false) c.head-2.ensures) c.head-2.ensures;
      within = head_within c.args.self.now.tables c.requires (call_headed _ (sym c.kind-kind.ensures ∙ c.if-kind-ne-CALL.false)) c.head-2.ensures;
    }
