mod LinkCalls
