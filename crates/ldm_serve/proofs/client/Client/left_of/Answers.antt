use Rattle.ldm_serve.proofs.client.Client.left_of.Goals as goal

pub returns : goal.returns
returns c = rw (← c.self.view_is) c.reduce.ensures
