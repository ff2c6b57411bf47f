use Rattle.ldm_serve.proofs.Keeps.{AsksByRules, InsertsByRules, puts-in, sends}
use Rattle.ldm_serve.proofs.MayGo.{go-none}
use Rattle.ldm_serve.proofs.Telling.{messages-go}
use Rattle.ldm_serve.specs.Connection.{messages_in}
use Rattle.ldm_serve.proofs.laws.serving_keeps_the_rules.Goals as goal

pub returns-clause-puts_in : goal.returns-clause-puts_in
returns-clause-puts_in c end client old new made serves calls =
    let inserts : InsertsByRules client = λ content now entries. c.rules_are_kept.ensures.inserts client content now client.actor entries in
    let asks : AsksByRules client = λ content now entries. c.rules_are_kept.ensures.asks_figures client content now client.actor entries in
    puts-in client end old new serves inserts asks made calls

pub returns-clause-sends : goal.returns-clause-sends
returns-clause-sends c end client old new serves = sends client end old new serves

pub returns-clause-answers : goal.returns-clause-answers
returns-clause-answers c client answers outlived last = go-none client (messages_in client answers) (messages-go client answers outlived last)
