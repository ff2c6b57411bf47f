-- What a queue comes to by products that are passed on to it at one moment.
use Rattle.std.specs.Prelude.{ℕ, nat_le, List, [], ◌∷◌, map, if◌then◌else◌}
use Rattle.ldm_model.specs.declared.event.Event.TheVariants.{Insert, Reserve, Fill, Commit}
use Rattle.ldm_model.specs.declared.event.Reply.{Reply}
use Rattle.ldm_model.specs.declared.event.Reply.TheVariants.{Reserved}
use Rattle.ldm_model.specs.Product.{Product}
use Rattle.ldm_model.specs.State.{State}
use Rattle.ldm_model.specs.Next.{next}
use Rattle.ldm_upstream.specs.Blocks.{blocks}
use Rattle.ldm_between_ends.specs.Handed.{Handed}

-- blocks are filled in, one after another
abbrev pub filled : ℕ → ℕ → List (List ℕ) → State → State
filled actor r [] s = s
filled actor r (block ∷ behind) s = filled actor r behind (next s actor (Fill r block)).state

-- A region was asked for, with that reply: where there is one, the body is filled in, in blocks, and it is committed.
abbrev pub reserved_so : ℕ → ℕ → Product → Reply → State → State
reserved_so actor now product (Reserved r evicted) s = (next (filled actor r (blocks product.body) s) actor (Commit r now)).state
reserved_so actor now product reply s = s

abbrev pub announced : ℕ → ℕ → Product → State → State
announced actor now product s =
    reserved_so actor now product (next s actor (Reserve product.info)).reply (next s actor (Reserve product.info)).state

-- A product is passed on at that moment: it is inserted where it is no larger than what is to come whole, and else announced.
abbrev pub passed : ℕ → ℕ → ℕ → Product → State → State
passed actor max_hereis now product s =
    if nat_le product.info.size max_hereis
    then (next s actor (Insert now product.info product.body)).state
    else announced actor now product s

-- products, one after another
abbrev pub passed_all : ℕ → ℕ → ℕ → List Product → State → State
passed_all actor max_hereis now [] s = s
passed_all actor max_hereis now (product ∷ behind) s =
    passed_all actor max_hereis now behind (passed actor max_hereis now product s)

abbrev pub products_of : List Handed → List Product
products_of products = map (λ (handed : Handed). handed.given.product) products
