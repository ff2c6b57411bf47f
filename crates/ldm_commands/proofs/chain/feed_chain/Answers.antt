use Rattle.ldm_commands.proofs.Times.{for_all_times}
use Rattle.ldm_commands.proofs.chain.feed_chain.Goals as goal

pub run_chain-requires-clause-classes : goal.run_chain-requires-clause-classes
run_chain-requires-clause-classes g c = for_all_times c.args.words.classes.items c.args.words.all_times
