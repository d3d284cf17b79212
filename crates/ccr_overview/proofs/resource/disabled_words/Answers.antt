use Rattle.std.proofs.Common.{sym, ◌∙◌, ap, map}
use Rattle.ccr_overview.specs.PageData.{word_data}
use Rattle.ccr_overview.proofs.Disabling.{disabled_told}
use Rattle.ccr_overview.proofs.resource.disabled_words.Goals as goal

pub returns : goal.returns
returns c =
    disabled_told c.args.listed.now c.split_at.result.1.now c.saturating_sub-more.result (map word_data c.new-all.result.items)
    (map word_data c.push_plain.new.out.items) (map word_data c.push_each_listed.new.out.items)
    (map word_data c.push_further.new.out.items) (sym c.is_empty.ensures ∙ c.if-is_empty.false) c.saturating_sub-more.ensures
    c.split_at.ensures.back (ap (map word_data) c.new-all.ensures.items) c.in_ok-push_plain.ensures
    c.in_ok-push_each_listed.ensures c.in_ok-push_further.ensures
