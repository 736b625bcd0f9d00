mod Over
