use Rattle.replicas_tests.proofs.node.node.node_alone.Given as goal

-- the log has one replica, and one pass
abbrev pub ghosts-node_on_log : goal.ghosts-node_on_log
ghosts-node_on_log g a = record { depth = a.depth; replicas = 1; passes = 1; places = 65536 }
